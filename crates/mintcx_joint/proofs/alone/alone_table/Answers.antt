use Rattle.std.proofs.Common.{◌∷◌, [], ◌++◌, ℕ, List, map, ap, ◌∙◌, arith}
use Rattle.std.specs.List.{range_with_len}
use Rattle.std.proofs.lemmas.List.FromFn.{map-range_with_len_more}
use Rattle.mintcx_joint.specs.Alone.{alone_cells, alone_head}
use Rattle.mintcx_joint.proofs.alone.alone_table.Goals as goal

pub loop-corner-preserved : goal.loop-corner-preserved
loop-corner-preserved c =
    let row : ℕ → List (List ℕ) = alone_cells c.args.unit c.args.corners.now.names.now c.args.corners.now.alone.now in
    let at = c.loop-corner.corner in
    record {
      columns = c.in_ok-push-2.ensures.columns ∙ c.loop-corner.invariant.columns;
      rows = rw (map-range_with_len_more row 0 at at (omega arith))
          (c.in_ok-push-2.ensures.ok ∙ ap (λ (v : List (List (List ℕ))). v ++ c.in_ok-alone_cells.field-0 ∷ []) c.loop-corner.invariant.rows
          ∙ ap (λ (v : List (List ℕ)). (alone_head ∷ map row (range_with_len 0 at)) ++ v ∷ []) c.in_ok-alone_cells.ensures);
    }
