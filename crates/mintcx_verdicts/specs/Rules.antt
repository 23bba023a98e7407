-- The second and the third test in words: the rules of the clock that are broken, and the bounds.
use Rattle.std.specs.Prelude.{ℕ, Bool, not, List, [], flat_map, if◌then◌else◌}
use Rattle.mintc_text.specs.Lines.{text_of}
use Rattle.mintc_timing.specs.declared.clocking.Schedule.{Schedule}
use Rattle.mintc_timing.specs.declared.violation.Broken.{Broken}
use Rattle.mintc_timing.specs.declared.violation.Broken.TheVariants as broken
use Rattle.mintc_timing.specs.declared.violation.Violation.{Violation}
use Rattle.mintc_timing.specs.Design.{Timing}
use Rattle.mintcx_amounts.specs.declared.unit.Unit.{Unit}
use Rattle.mintcx_judgements.specs.Rules.{rule_lines}

-- whether what is broken is told where bounds are, or else where all others are
abbrev pub is_told : Bool → Broken → Bool
is_told bounds (broken.Bound n) = bounds
is_told bounds other = not bounds

-- a rule in words, where it is told
abbrev pub told_text : Timing → Schedule → Unit → Bool → Violation → List ℕ
told_text t s unit bounds v =
    if is_told bounds v.broken then text_of (rule_lines t s unit v.broken v.amount) else []

-- the rules of the clock, or the bounds, among some violations
abbrev pub rules_text : Timing → Schedule → Unit → Bool → List Violation → List ℕ
rules_text t s unit bounds vs = flat_map (told_text t s unit bounds) vs
