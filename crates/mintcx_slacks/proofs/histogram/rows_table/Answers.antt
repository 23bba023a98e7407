use Rattle.std.proofs.Common.{◌≡◌, ◌+◌, ◌∷◌, [], ◌++◌, ℕ, List, map, ap, ◌∙◌, arith}
use Rattle.std.specs.List.{range_with_len}
use Rattle.std.proofs.lemmas.List.FromFn.{map-range_with_len_more}
use Rattle.mintcx_slacks.specs.Histograms.{bar_head, bar_row, fullest_of}
use Rattle.mintcx_slacks.proofs.histogram.rows_table.Goals as goal

pub loop-number-preserved : goal.loop-number-preserved
loop-number-preserved c =
    let step = c.args.step.femtoseconds in
    let row : ℕ → List (List ℕ) = bar_row c.args.unit step c.args.extra.now (fullest_of step c.args.extra.now) in
    let n = c.loop-number.number in
    record {
      columns = c.in_ok-push-2.ensures.columns ∙ c.loop-number.invariant.columns;
      rows = rw (map-range_with_len_more row 0 n n (omega arith))
          (c.in_ok-push-2.ensures.ok ∙ ap (λ (v : List (List (List ℕ))). v ++ c.in_ok-bar_row.field-0 ∷ []) c.loop-number.invariant.rows
          ∙ ap (λ (v : List (List ℕ)). (bar_head ∷ map row (range_with_len 0 n)) ++ v ∷ [])
          (c.in_ok-bar_row.ensures ∙ ap (λ full. bar_row c.args.unit step c.args.extra.now full n) c.fullest-fullest.ensures.value));
    }
