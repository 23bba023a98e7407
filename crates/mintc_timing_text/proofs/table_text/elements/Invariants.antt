use Rattle.std.proofs.Common.{◌≡◌, ℕ, List, [], length}
use Rattle.mintc_text.specs.declared.limits.TheConstants.{MOST_ELEMENTS}
use Rattle.mintc_timing.specs.Design.{design_of}
use Rattle.mintc_timing_text.specs.TableText.{element}
use Rattle.mintc_timing_text.proofs.TableReading.{At, SoFar, element_states}
use Rattle.mintc_timing_text.proofs.table_text.elements.Given as goal

-- the lines so far
abbrev pub invariant-loop-element : goal.invariant-loop-element
invariant-loop-element l = (text : List ℕ) (ps : List (List ℕ)) → length ps ≡ l.fn.phases → At text l.initial.reader (element l.fn.version l.count (design_of ps [] [] [] [])) → SoFar (element_states l.fn.version ps) MOST_ELEMENTS text l.reader l.kept.items l._element l.count
