-- The fields of rows of violations.
use Rattle.std.proofs.Common.{◌∷◌, [], ℕ, ℤ, pos, List, Bool, true, false, take}
use Rattle.std.specs.Prelude.{if◌then◌else◌, int_lt}
use Rattle.mintc_timing.specs.declared.violation.Violation.{Violation}
use Rattle.mintc_timing.specs.Design.{Timing}
use Rattle.mintcx_judgements.specs.Fails.{violation_at}
use Rattle.mintcx_csv.specs.Tables.{shown_over}
use Rattle.mintcx_csv.specs.Violations.{fail_record, fail_records}
use Rattle.mintcx_csv.proofs.TableLaws.{AllHaveSeveral, HasSeveral, made_of}

-- a row of four fields has several with its last one and without
some_shown : (b : Bool) (p q r t : List ℕ) → HasSeveral (take (if b then 4 else 3) (p ∷ q ∷ r ∷ t ∷ []))
some_shown true p q r t = tt
some_shown false p q r t = tt

several_shown : (den : ℤ) (p q r t : List ℕ) → HasSeveral (shown_over den 3 (p ∷ q ∷ r ∷ t ∷ []))
several_shown den p q r t = some_shown (int_lt (pos 1) den) p q r t

pub records_several : (t : Timing) (den : ℤ) (vs : List Violation) (places : List (ℕ × ℤ × ℕ)) → AllHaveSeveral (fail_records t den vs places)
records_several t den vs places = (
  several_shown den _ _ _ _,
  made_of (λ (place : ℕ × ℤ × ℕ). shown_over den 3 (fail_record t den (violation_at vs place.2))) (λ place. several_shown den _ _ _ _) places,
)
