use Rattle.std.proofs.Common.{◌≡◌, ℕ, List, [], length}
use Rattle.mintc_text.specs.declared.limits.TheConstants.{MOST_BOUNDS}
use Rattle.mintc_timing.specs.declared.parts.Element.{Element}
use Rattle.mintc_timing.specs.declared.parts.TimingArc.{TimingArc}
use Rattle.mintc_timing.specs.Design.{design_of}
use Rattle.mintc_timing_text.specs.TableText.{bound}
use Rattle.mintc_timing_text.proofs.TableReading.{At, SoFar, bound_states}
use Rattle.mintc_timing_text.proofs.table_text.bounds.Given as goal

-- the lines so far
abbrev pub invariant-loop-bound : goal.invariant-loop-bound
invariant-loop-bound l = (text : List ℕ) (ps : List (List ℕ)) (es : List Element) (ns : List (List ℕ)) (xs : List TimingArc) → length ps ≡ l.fn.phases → At text l.initial.reader (bound l.count (design_of ps es ns xs [])) → SoFar (bound_states ps es ns xs) MOST_BOUNDS text l.reader l.kept.items l._bound l.count
