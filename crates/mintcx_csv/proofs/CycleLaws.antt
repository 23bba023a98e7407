-- The fields of rows of phases and of members.
use Rattle.std.proofs.Common.{◌∷◌, [], ℕ, ℤ, pos, List, Bool, true, false, take}
use Rattle.std.specs.Prelude.{if◌then◌else◌, int_lt}
use Rattle.std.specs.List.{range_with_len}
use Rattle.mintc_checker.specs.declared.verdict.Verdict.{Verdict}
use Rattle.mintc_checker.specs.declared.verdict.Verdict.TheVariants.{Valid, Invalid}
use Rattle.mintc_timing.specs.declared.clocking.Schedule.{Schedule}
use Rattle.mintc_timing.specs.Design.{Design, phase_count}
use Rattle.mintcx_csv.specs.Cycles.{phase_records, shown_phase}
use Rattle.mintcx_csv.specs.Tables.{shown_over}
use Rattle.mintcx_csv.specs.Verdicts.{verdict_record}
use Rattle.mintcx_csv.proofs.TableLaws.{AllHaveSeveral, HasSeveral, made_of}

-- a row of four fields has several with its last one and without
some_shown : (b : Bool) (o p q r : List ℕ) → HasSeveral (take (if b then 4 else 3) (o ∷ p ∷ q ∷ r ∷ []))
some_shown true o p q r = tt
some_shown false o p q r = tt

several_shown : (den : ℤ) (o p q r : List ℕ) → HasSeveral (shown_over den 3 (o ∷ p ∷ q ∷ r ∷ []))
several_shown den o p q r = some_shown (int_lt (pos 1) den) o p q r

pub phases_several : (design : Design) (s : Schedule) → AllHaveSeveral (phase_records design s)
phases_several design s = (
  several_shown s.den _ _ _ _,
  made_of (shown_phase design s) (λ p. several_shown s.den _ _ _ _) (range_with_len 1 (phase_count design)),
)

-- the row of a verdict
pub verdict_several : (v : Verdict) → HasSeveral (verdict_record v)
verdict_several Valid = tt
verdict_several (Invalid n) = tt
