-- A chain has one row more than it has stages.
use Rattle.std.proofs.Common.{◌≡◌, ◌+◌, ◌∷◌, [], ℕ, ℤ, List, length, map, length-append, ap, ◌∙◌}
use Rattle.std.specs.List.{range_with_len}
use Rattle.std.proofs.lemmas.List.FromFn.{length-map-range_with_len}
use Rattle.mintc_timing.specs.declared.clocking.Schedule.{Schedule}
use Rattle.mintc_timing.specs.Design.{Design}
use Rattle.mintcx_chain.specs.declared.rows.Row.{Row}
use Rattle.mintcx_chain.specs.declared.stages.Stage.{Stage}
use Rattle.mintcx_chain.specs.Rows.{last_row, row_at, rows_of}

pub rows_count : (design : Design) (s : Schedule) (d : List ℤ) (stages : List Stage) → length (rows_of design s d stages) ≡ length stages + 1
rows_count design s d stages =
    let row : ℕ → Row = row_at design s d stages in
    length-append (map row (range_with_len 0 (length stages))) (last_row design s d stages ∷ [])
    ∙ ap (λ (n : ℕ). n + 1) (length-map-range_with_len row 0 (length stages))
