-- The words of an element's line.
use Rattle.std.specs.Prelude.{◌≡◌, ℕ, ℤ, pos, Bool, true, IsTrue, IsFalse, List}
use Rattle.mintc_timing.specs.declared.parts.Element.{Element}
use Rattle.mintc_timing_text.specs.declared.table_lines.ElementNumbers.{ElementNumbers}
use Rattle.mintc_timing_text.specs.declared.table_lines.Version.{Version}
use Rattle.mintc_timing_text.specs.declared.table_lines.Version.TheVariants.{Latches, Flops, Openings}
use Rattle.mintc_timing.specs.Limits.{IsGap}
use Rattle.mintc_timing_text.specs.Fields.{AreDelays}

-- an element of this name and these numbers
abbrev pub named : List ℕ → ElementNumbers → Element
named name n = record {
  name = name;
  phase = n.phase;
  flop = n.flop;
  setup = n.setup;
  hold = n.hold;
  has_hold = n.has_hold;
  dq_min = n.dq_min;
  dq_max = n.dq_max;
  cq_min = n.cq_min;
  cq_max = n.cq_max;
  width = n.width;
}

-- A version without a word for the kind has latches alone.
abbrev pub IsKind : Version → Bool → Type 0
IsKind Latches flop = IsFalse flop
IsKind Flops flop = Unit {0}
IsKind Openings flop = Unit {0}

-- no hold is 0
abbrev pub IsHold : Bool → ℤ → Type 0
IsHold has_hold hold = IsGap hold × (IsFalse has_hold → hold ≡ pos 0)

-- whether the delays from the opening edge are those from the data
abbrev pub are_equal : Version → Bool → Bool
are_equal Latches flop = true
are_equal Flops flop = true
are_equal Openings flop = flop

-- the least and the greatest delay from the opening edge, which are those from the data where the version asks it
abbrev pub IsOpening : Version → Bool → ℤ → ℤ → ℤ → ℤ → Type 0
IsOpening v flop dq_min dq_max cq_min cq_max = AreDelays cq_min cq_max
    × (IsTrue (are_equal v flop) → (cq_min ≡ dq_min) × (cq_max ≡ dq_max))
