use Rattle.std.proofs.Common.{◌≡◌, ℕ, List, [], length}
use Rattle.mintc_text.specs.declared.limits.TheConstants.{MOST_ARCS}
use Rattle.mintc_timing.specs.declared.parts.Element.{Element}
use Rattle.mintc_timing.specs.Design.{design_of}
use Rattle.mintc_timing_text.specs.TableText.{arc}
use Rattle.mintc_timing_text.proofs.TableReading.{At, SoFar, arc_states}
use Rattle.mintc_timing_text.proofs.table_text.arcs.Given as goal

-- the lines so far
abbrev pub invariant-loop-arc : goal.invariant-loop-arc
invariant-loop-arc l = (text : List ℕ) (ps : List (List ℕ)) (es : List Element) (ns : List (List ℕ)) → length es ≡ l.fn.elements → length ns ≡ l.fn.inner → At text l.initial.reader (arc l.count (design_of ps es ns [] [])) → SoFar (arc_states ps es ns) MOST_ARCS text l.reader l.kept.items l._arc l.count
