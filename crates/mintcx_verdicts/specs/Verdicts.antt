-- The text of a verdict on a certificate: valid, with what that means, or the first of the seven tests that it fails,
-- and what fails it.
use Rattle.std.specs.Prelude.{◌≡◌, ◌==◌, ℕ, pos, List, [], ◌∷◌, ◌++◌, codes, decimal, true, false, if◌then◌else◌}
use Rattle.mintc_fraction.specs.Ratio.{over}
use Rattle.mintc_text.specs.Lines.{ended}
use Rattle.mintc_timing.specs.declared.clocking.Schedule.{Schedule}
use Rattle.mintc_timing.specs.declared.violation.Violation.{Violation}
use Rattle.mintc_timing.specs.Design.{Timing}
use Rattle.mintc_certificate.specs.declared.certificate.Certificate.{Certificate}
use Rattle.mintc_certificate.specs.declared.certificate.Certificate.TheVariants.{Least, Never}
use Rattle.mintc_certificate.specs.Valid.{Test, counts, clock, bounds, departures, setups, ring, sums}
use Rattle.mintc_checker.specs.declared.verdict.Verdict.{Verdict}
use Rattle.mintc_checker.specs.declared.verdict.Verdict.TheVariants.{Valid, Invalid}
use Rattle.mintcx_amounts.specs.declared.unit.Unit.{Unit}
use Rattle.mintcx_frame.specs.declared.view.View.{View}
use Rattle.mintcx_frame.specs.Ends.{subject_text, time_text, unit_for}
use Rattle.mintcx_verdicts.specs.Counts.{counts_text}
use Rattle.mintcx_verdicts.specs.Rules.{rules_text}
use Rattle.mintcx_verdicts.specs.Arrivals.{departures_text, setups_text}
use Rattle.mintcx_verdicts.specs.Chains.{IsChainReason, stuck_line, sums_over, tight_line}

-- what a valid certificate with a schedule means: it is right, and its cycle the least
abbrev pub least_text : Schedule → List ℕ → View → List ℕ
least_text s design view =
    codes "valid  cycle " ++ time_text (unit_for view.unit (over s.cycle s.den)) (over s.cycle s.den)
    ++ codes " is the least of all right schedules of " ++ design ++ codes ", and this schedule is right"
    ++ subject_text view.subject

-- what a valid certificate without a schedule means
abbrev pub never_text : List ℕ → View → List ℕ
never_text design view = codes "valid  no schedule of " ++ design ++ codes " is right" ++ subject_text view.subject

-- what a valid certificate means; one without a schedule shows that none is right
abbrev pub valid_text : Certificate → List ℕ → View → List ℕ
valid_text (Least s d chain) design view = least_text s design view
valid_text (Never chain) design view = never_text design view

-- the test of a number, which is one from 1 to 7
abbrev pub test_of : ℕ → Test
test_of n =
    if n == 1 then counts else if n == 2 then clock else if n == 3 then bounds else if n == 4 then departures
    else if n == 5 then setups else if n == 6 then ring else sums

-- what a test looks at
abbrev pub test_name : Test → List ℕ
test_name counts = codes "counts"
test_name clock = codes "rules of the clock"
test_name bounds = codes "bounds"
test_name departures = codes "departures"
test_name setups = codes "setups"
test_name ring = codes "members of the chain"
test_name sums = codes "sums of the chain"

-- the first line of a certificate that fails the test of a number, and an empty line
abbrev pub failed_head : ℕ → View → List ℕ
failed_head n view =
    codes "invalid  test " ++ decimal n ++ codes " of 7 fails: " ++ test_name (test_of n)
    ++ subject_text view.subject ++ 10 ∷ []

-- the unit of the times of a certificate's schedule
abbrev pub schedule_unit : Schedule → View → Unit
schedule_unit s view = unit_for view.unit (over s.cycle s.den)

-- the unit of the times of a chain alone
abbrev pub chain_unit : Timing → Certificate → View → Unit
chain_unit t (Least s d chain) view = schedule_unit s view
chain_unit t (Never chain) view = unit_for view.unit (over (sums_over t.flat chain).delay (pos 1))

-- The text says why a certificate fails a test; violations are those of its schedule. A chain alone can fail the last
-- two.
abbrev pub IsReason : Timing → Certificate → Unit → List Violation → Test → List ℕ → Type 0
IsReason t (Least s d chain) unit vs counts text = text ≡ counts_text t.flat s d
IsReason t (Least s d chain) unit vs clock text = text ≡ rules_text t s unit false vs
IsReason t (Least s d chain) unit vs bounds text = text ≡ rules_text t s unit true vs
IsReason t (Least s d chain) unit vs departures text = text ≡ departures_text t s d unit
IsReason t (Least s d chain) unit vs setups text = text ≡ setups_text t s d unit
IsReason t (Least s d chain) unit vs ring text = IsChainReason t chain text
IsReason t (Least s d chain) unit vs sums text =
    text ≡ ended (tight_line unit (over s.cycle s.den) (sums_over t.flat chain))
IsReason t (Never chain) unit vs ring text = IsChainReason t chain text
IsReason t (Never chain) unit vs test text = text ≡ ended (stuck_line unit (sums_over t.flat chain))

-- A text of a kind is written behind what was there.
abbrev pub IsWritten : (List ℕ → Type 0) → List ℕ → List ℕ → Type 0
IsWritten kind old new = (text : List ℕ) × kind text × (new ≡ old ++ text)

-- The text is that of this verdict.
abbrev pub IsVerdictText : Timing → Certificate → List ℕ → View → List Violation → Verdict → List ℕ → Type 0
IsVerdictText t certificate design view vs Valid text = text ≡ valid_text certificate design view
IsVerdictText t certificate design view vs (Invalid n) text =
    IsWritten (IsReason t certificate (chain_unit t certificate view) vs (test_of n)) (failed_head n view) text
