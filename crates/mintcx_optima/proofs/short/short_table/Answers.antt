use Rattle.std.proofs.Common.{◌≡◌, ◌+◌, ◌∷◌, [], ◌++◌, List, ℕ, map, take, ap, ◌∙◌}
use Rattle.std.proofs.lemmas.List.{map_more}
use Rattle.mintcx_chain.specs.declared.stages.Stage.{Stage}
use Rattle.mintcx_optima.specs.Cycles.{short_cells, short_head}
use Rattle.mintcx_optima.proofs.short.short_table.Goals as goal

pub loop-stage-preserved : goal.loop-stage-preserved
loop-stage-preserved c =
    let cells : Stage → List (List ℕ) = short_cells c.args.flat.now c.args.unit in
    let stages = c.args.stages.now in
    let i = c.loop-stage.stage-index in
    let stage = c.stage-item.result in
    record {
      columns = c.in_ok-push-2.ensures.columns ∙ c.loop-stage.invariant.columns;
      rows = rw (map_more cells stages i stage c.loop-stage-test.true)
          (c.in_ok-push-2.ensures.ok ∙ ap (λ (v : List (List (List ℕ))). v ++ c.in_ok-short_cells.field-0 ∷ []) c.loop-stage.invariant.rows
          ∙ ap (λ (v : List (List ℕ)). (short_head ∷ map cells (take i stages)) ++ v ∷ []) (c.in_ok-short_cells.ensures ∙ ap cells c.stage-item.is));
    }
