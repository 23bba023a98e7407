-- The fields of rows of a pass.
use Rattle.std.proofs.Common.{◌∷◌, [], ℕ, ℤ, pos, List, Bool, true, false, take}
use Rattle.std.specs.Prelude.{if◌then◌else◌, int_lt}
use Rattle.mintc_timing.specs.declared.clocking.Schedule.{Schedule}
use Rattle.mintc_timing.specs.Design.{Timing}
use Rattle.mintcx_csv.specs.Passes.{pass_record, pass_records}
use Rattle.mintcx_csv.specs.Tables.{shown_over}
use Rattle.mintcx_csv.proofs.TableLaws.{AllHaveSeveral, HasSeveral, made_of}

-- a row of seven fields has several with its last one and without
some_shown : (b : Bool) (o p q r t u v : List ℕ) → HasSeveral (take (if b then 7 else 6) (o ∷ p ∷ q ∷ r ∷ t ∷ u ∷ v ∷ []))
some_shown true o p q r t u v = tt
some_shown false o p q r t u v = tt

several_shown : (den : ℤ) (o p q r t u v : List ℕ) → HasSeveral (shown_over den 6 (o ∷ p ∷ q ∷ r ∷ t ∷ u ∷ v ∷ []))
several_shown den o p q r t u v = some_shown (int_lt (pos 1) den) o p q r t u v

pub rooms_several : (t : Timing) (s : Schedule) (late early : List ℤ) (places : List (ℕ × ℤ × ℕ)) → AllHaveSeveral (pass_records t s late early places)
rooms_several t s late early places = (
  several_shown s.den _ _ _ _ _ _ _,
  made_of (λ (place : ℕ × ℤ × ℕ). shown_over s.den 6 (pass_record t s late early place.2)) (λ place. several_shown s.den _ _ _ _ _ _ _) places,
)
