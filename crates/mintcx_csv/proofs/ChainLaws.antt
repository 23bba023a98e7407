-- The rows of a chain, and their fields.
use Rattle.std.proofs.Common.{◌≡◌, ◌+◌, ◌∷◌, [], ◌∙◌, ℕ, ℤ, pos, List, Bool, true, false, length, map, take, ap, length-append}
use Rattle.std.specs.Prelude.{if◌then◌else◌, int_lt}
use Rattle.std.specs.List.{range_with_len}
use Rattle.std.proofs.lemmas.List.FromFn.{length-map-range_with_len}
use Rattle.mintc_timing.specs.declared.clocking.Schedule.{Schedule}
use Rattle.mintc_timing.specs.Design.{Design}
use Rattle.mintcx_chain.specs.declared.rows.Row.{Row}
use Rattle.mintcx_chain.specs.declared.stages.Stage.{Stage}
use Rattle.mintcx_chain.specs.Rows.{last_row, row_at, rows_of}
use Rattle.mintcx_csv.specs.Chains.{chain_record_at, chain_records}
use Rattle.mintcx_csv.specs.Tables.{shown_over}
use Rattle.mintcx_csv.proofs.TableLaws.{AllHaveSeveral, HasSeveral, made_of}

-- a chain has one row more than it has stages
pub rows_count : (design : Design) (s : Schedule) (d : List ℤ) (stages : List Stage) → length (rows_of design s d stages) ≡ length stages + 1
rows_count design s d stages =
    let row : ℕ → Row = row_at design s d stages in
    length-append (map row (range_with_len 0 (length stages))) (last_row design s d stages ∷ [])
    ∙ ap (λ (n : ℕ). n + 1) (length-map-range_with_len row 0 (length stages))

-- a row of seven fields has several with its last one and without
some_shown : (b : Bool) (p q r t u v w : List ℕ) → HasSeveral (take (if b then 7 else 6) (p ∷ q ∷ r ∷ t ∷ u ∷ v ∷ w ∷ []))
some_shown true p q r t u v w = tt
some_shown false p q r t u v w = tt

pub several_shown : (den : ℤ) (p q r t u v w : List ℕ) → HasSeveral (shown_over den 6 (p ∷ q ∷ r ∷ t ∷ u ∷ v ∷ w ∷ []))
several_shown den p q r t u v w = some_shown (int_lt (pos 1) den) p q r t u v w

pub records_several : (design : Design) (s : Schedule) (d : List ℤ) (stages : List Stage) → AllHaveSeveral (chain_records design s d stages)
records_several design s d stages = (
  several_shown s.den _ _ _ _ _ _ _,
  made_of (chain_record_at design s.den (rows_of design s d stages) stages) (λ n. several_shown s.den _ _ _ _ _ _ _) (range_with_len 0 (length stages)),
)
