-- Verdicts on certificates, as JSON.
use Rattle.std.specs.Prelude.{ℕ, pos, List, [], ◌∷◌, ◌++◌, codes, map}
use Rattle.json.specs.Json.{Json, string}
use Rattle.mintc_timing.specs.declared.violation.Violation.{Violation}
use Rattle.mintc_timing.specs.declared.clocking.Schedule.{Schedule}
use Rattle.mintc_timing.specs.Design.{Timing}
use Rattle.mintc_certificate.specs.declared.certificate.Certificate.{Certificate}
use Rattle.mintc_certificate.specs.declared.certificate.Certificate.TheVariants.{Least, Never}
use Rattle.mintc_checker.specs.declared.verdict.Verdict.{Verdict}
use Rattle.mintc_checker.specs.declared.verdict.Verdict.TheVariants.{Valid, Invalid}
use Rattle.mintcx_verdicts.specs.Verdicts.{test_name, test_of}
use Rattle.mintcx_json.specs.Objects.{Field, IsTextOf, array_of, count, head_fields, name, object_of, whole}
use Rattle.mintcx_json.specs.Judgements.{violation_value}

-- the denominator of all times, and the cycle time of a schedule
abbrev pub cycle_fields : Schedule → List Field
cycle_fields s = (codes "den", whole s.den) ∷ (codes "cycle", whole s.cycle) ∷ []

-- what a certificate claims, under a key: a least cycle time, or that there is none
abbrev pub claim_fields : List ℕ → Certificate → List Field
claim_fields key (Least s d chain) = (key, string (codes "least")) ∷ cycle_fields s
claim_fields key (Never chain) = (key, string (codes "never")) ∷ (codes "den", whole (pos 1)) ∷ []

-- of a certificate that isn't valid the first test that fails, by its number from 1 to 7 and by what it looks at, and
-- violations
abbrev pub test_fields : Timing → List Violation → Verdict → List Field
test_fields t vs Valid = []
test_fields t vs (Invalid n) =
    (codes "test", count n) ∷ (codes "fails", string (test_name (test_of n))) ∷
    (codes "violations", array_of (map (violation_value t) vs)) ∷ []

-- the word of a verdict
abbrev pub verdict_word : Verdict → List ℕ
verdict_word Valid = codes "valid"
verdict_word (Invalid n) = codes "invalid"

-- how its run ends
abbrev pub verdict_status : Verdict → ℕ
verdict_status Valid = 0
verdict_status (Invalid n) = 1

-- A verdict: the design, the name of the certificate, what that claims, and the test that fails.
abbrev pub verdict_value : Timing → Certificate → List ℕ → List ℕ → List Violation → Verdict → Json
verdict_value t c design certificate vs v = object_of (
    head_fields (codes "verify") (verdict_status v) (verdict_word v) design ++
    ((codes "certificate", name certificate) ∷ claim_fields (codes "claim") c) ++ test_fields t vs v)

-- The text is the object of this verdict on a certificate that is called so, of a design that is called so.
abbrev pub IsVerdictObject : Timing → Certificate → List ℕ → List ℕ → List Violation → Verdict → List ℕ → Type 0
IsVerdictObject t c design certificate vs v text = IsTextOf (verdict_value t c design certificate vs v) text
