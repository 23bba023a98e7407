use Rattle.std.proofs.Common.{◌≡◌, ◌++◌, List, ℕ, None, option_map}
use Rattle.std.specs.Borrow.{Bor}
use Rattle.mintc_liberty.proofs.PlaceLaws.{cells_from}
use Rattle.mintc_liberty.proofs.texts.library_cells.Given as goal

-- the cells that are found, and those that are left
abbrev pub invariant-loop-place : goal.invariant-loop-place
invariant-loop-place l =
    cells_from l.library.text None l.initial.place-iterator.rest.items
    ≡ l.cells.items ++ cells_from l.library.text (option_map (λ (b : Bor (List ℕ)). b.now) l.before) l.place-iterator.rest.items
