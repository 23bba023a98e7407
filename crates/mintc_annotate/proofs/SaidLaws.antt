-- The element of a leaf by what is said of it.
use Rattle.std.proofs.Common.{◌≡◌, ℕ, List, refl}
use Rattle.mintc_cells.specs.declared.cell.Cell.{Cell}
use Rattle.mintc_cells.specs.declared.cell.Cell.TheVariants.{Gate, Latch, Flop, Clock}
use Rattle.mintc_annotate.specs.Made.{RangeOf, element_of}
use Rattle.mintc_annotate.specs.Said.{said_in, element_said}

pub said_is : (ranges : RangeOf) (name : List ℕ) (l phase : ℕ) (cell : Cell) → element_said (said_in ranges l) name phase cell ≡ element_of ranges name l phase cell
said_is ranges name l phase (Latch pin_d pin_g high outputs ignored setup hold has_hold dq_min dq_max cq_min cq_max has_cq width) = refl
said_is ranges name l phase (Flop pin_d pin_clock rising outputs ignored setup hold has_hold cq_min cq_max width) = refl
said_is ranges name l phase (Gate inputs outputs min max) = refl
said_is ranges name l phase (Clock input output invert ignored) = refl
