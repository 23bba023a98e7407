-- arcs that stand in an order
use Rattle.std.specs.Prelude.{◌≡◌, ◌<◌, ℕ, List, length}
use Rattle.mintc_timing.specs.declared.parts.TimingArc.{TimingArc}
use Rattle.mintc_timing.specs.Paths.{arc_at}

-- Each arc stands after all arcs into the bit that it leaves.
abbrev pub StandInOrder : List TimingArc → Type 0
StandInOrder arcs = (i j : ℕ) → i < length arcs → j < length arcs → (arc_at arcs i).to ≡ (arc_at arcs j).from → i < j
