-- Violations of a design's own parts.
use Rattle.std.specs.Prelude.{◌≡◌, ◌<◌, ◌≤◌, ℕ, List, length, All}
use Rattle.mintc_timing.specs.declared.violation.Broken.{Broken}
use Rattle.mintc_timing.specs.declared.violation.Broken.TheVariants as broken
use Rattle.mintc_timing.specs.declared.violation.Violation.{Violation}
use Rattle.mintc_timing.specs.declared.clocking.Schedule.{Schedule}
use Rattle.mintc_timing.specs.Design.{Timing, phase_count, element_count}
use Rattle.mintc_timing.specs.Limits.{IsPhase}
use Rattle.mintc_timing.specs.Violations.{AreViolations}

-- The constraint is one of the design's own phases, bounds, pairs or elements.
abbrev pub IsNamed : Timing → Broken → Type 0
IsNamed t (broken.Cycle p) = IsPhase (phase_count t.flat) p
IsNamed t (broken.Order p) = (1 ≤ p) × (p < phase_count t.flat)
IsNamed t (broken.Span p) = IsPhase (phase_count t.flat) p
IsNamed t (broken.Width p) = IsPhase (phase_count t.flat) p
IsNamed t (broken.Apart i j) = IsPhase (phase_count t.flat) i × IsPhase (phase_count t.flat) j
IsNamed t (broken.Bound b) = b < length t.flat.bounds
IsNamed t (broken.Loop ring) = All (λ n. n < length t.pairs) ring
IsNamed t (broken.Setup l) = l < element_count t.flat
IsNamed t (broken.Hold l) = l < element_count t.flat

-- Each of the constraints is.
abbrev pub AreNamed : Timing → List Violation → Type 0
AreNamed t vs = All (λ v. IsNamed t v.broken) vs

-- The violations of a schedule are of the design's own parts.
abbrev pub ViolationsAreNamed : Type 0
ViolationsAreNamed = (t : Timing) (s : Schedule) (vs : List Violation) → AreViolations t s vs → AreNamed t vs
