-- Where four texts have a design, nothing but memory can be wanting.
use Rattle.std.proofs.Common.{◌≡◌, refl}
use Rattle.mintcx_edges.specs.declared.halt.Halt.{Halt}
use Rattle.mintcx_edges.specs.declared.halt.Halt.TheVariants as halt
use Rattle.mintcx_edges.specs.Halts.{IsEdgeHalt}
use Rattle.mintcx_edges.specs.Laws.{LibrariesArePlain, LibrariesAreNotHalted}
use Rattle.mintcx_edges.proofs.FormLaws.{gates_known, gates_usable}

pub not_halted_lem : LibrariesArePlain → LibrariesAreNotHalted
not_halted_lem plain most v d l gates k design why is told = by why told
  where
    by : (why : Halt) → IsEdgeHalt most v d l gates k why → why ≡ halt.OutOfMemory
    by (halt.Refused refused) h = absurd ((plain gates).no_refusal most v d l k design refused is h)
    by (halt.Unknown at) h = absurd (gates_known l gates is.cells at is.read.cells_read h.cells)
    by (halt.Unusable at) h = absurd (gates_usable l gates is.cells at is.read.cells_read h.cells)
    by halt.OutOfMemory h = refl
