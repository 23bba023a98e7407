use Rattle.std.proofs.Common.{◌≡◌, ◌<◌, length, map, take, All}
use Rattle.mintc_annotate.specs.Counts.{with_port}
use Rattle.mintc_annotate.specs.Made.{bits_in}
use Rattle.mintc_annotate.proofs.listing.bits_in.Given as goal

abbrev pub invariant-loop-place : goal.invariant-loop-place
invariant-loop-place l =
    (map (with_port l.listed) l.found.items ≡ bits_in l.ports l.output (take l.place l.listed)) × All (λ x. x.place < length l.listed) l.found.items
