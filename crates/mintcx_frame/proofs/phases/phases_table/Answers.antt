use Rattle.std.proofs.Common.{◌≡◌, ◌+◌, ◌∷◌, [], ◌++◌, ℕ, List, map, ap, ◌∙◌, arith}
use Rattle.std.specs.List.{range_with_len}
use Rattle.std.proofs.lemmas.List.FromFn.{map-range_with_len_more}
use Rattle.mintcx_frame.specs.Phases.{phase_head, phase_row}
use Rattle.mintcx_frame.proofs.phases.phases_table.Goals as goal

pub loop-at-preserved : goal.loop-at-preserved
loop-at-preserved c =
    let row : ℕ → List (List ℕ) = phase_row c.args.flat.now c.args.schedule.now c.args.unit in
    let at = c.loop-at.at in
    record {
      columns = c.in_ok-push-2.ensures.columns ∙ c.loop-at.invariant.columns;
      rows = rw (map-range_with_len_more row 1 at (at + 1) (omega arith))
          (c.in_ok-push-2.ensures.ok ∙ ap (λ (v : List (List (List ℕ))). v ++ c.in_ok-phase_row.field-0 ∷ []) c.loop-at.invariant.rows
          ∙ ap (λ (v : List (List ℕ)). (phase_head ∷ map row (range_with_len 1 at)) ++ v ∷ []) c.in_ok-phase_row.ensures);
    }
