use Rattle.std.proofs.Common.{◌≡◌, ◌+◌, ◌∷◌, [], ◌++◌, ℕ, List, map, ap, ◌∙◌, arith}
use Rattle.std.specs.List.{range_with_len}
use Rattle.std.proofs.lemmas.List.FromFn.{map-range_with_len_more}
use Rattle.mintcx_optima.specs.Tables.{chain_cells, chain_head}
use Rattle.mintcx_optima.proofs.tables.chain_table.Goals as goal

pub loop-number-preserved : goal.loop-number-preserved
loop-number-preserved c =
    let row : ℕ → List (List ℕ) = chain_cells c.args.flat.now c.args.scale.unit c.args.scale.den c.args.stages.now c.args.rows.now in
    let at = c.loop-number.number in
    record {
      columns = c.in_ok-push-2.ensures.columns ∙ c.loop-number.invariant.columns;
      rows = rw (map-range_with_len_more row 0 at at (omega arith))
          (c.in_ok-push-2.ensures.ok ∙ ap (λ (v : List (List (List ℕ))). v ++ c.in_ok-chain_cells.field-0 ∷ []) c.loop-number.invariant.rows
          ∙ ap (λ (v : List (List ℕ)). (chain_head ∷ map row (range_with_len 0 at)) ++ v ∷ []) c.in_ok-chain_cells.ensures);
    }
