-- What is said of one latch or flop, and its element by that.
use Rattle.std.specs.Prelude.{ℕ, List, None}
use Rattle.mintc_cells.specs.declared.cell.Cell.{Cell}
use Rattle.mintc_timing.specs.declared.parts.Element.{Element}
use Rattle.mintc_annotate_resolve.specs.Resolution.{dq_of, cq_of, setup_of, hold_of, width_of}
use Rattle.mintc_annotate.specs.declared.stored.SaidOf.{SaidOf}
use Rattle.mintc_annotate.specs.Made.{RangeOf, element_of}

-- what the ranges of all targets say of leaf l
abbrev pub said_in : RangeOf → ℕ → SaidOf
said_in ranges l = record {
  dq = ranges (dq_of l);
  cq = ranges (cq_of l);
  setup = ranges (setup_of l);
  hold = ranges (hold_of l);
  width = ranges (width_of l);
}

-- what is said of a leaf as ranges, whichever leaf it is
abbrev pub ranges_of : SaidOf → RangeOf
ranges_of said (dq_of l) = said.dq
ranges_of said (cq_of l) = said.cq
ranges_of said (setup_of l) = said.setup
ranges_of said (hold_of l) = said.hold
ranges_of said (width_of l) = said.width
ranges_of said _ = None

-- the element of a latch or flop of which this is said
abbrev pub element_said : SaidOf → List ℕ → ℕ → Cell → Element
element_said said name phase cell = element_of (ranges_of said) name 0 phase cell
