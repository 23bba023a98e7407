use Rattle.std.proofs.Common.{◌≡◌, ◌++◌, ◌∷◌, [], ℕ, ℤ, pos, List, map, take, ap, ◌∙◌, sym, arith}
use Rattle.std.proofs.lemmas.List.{map_more}
use Rattle.mintcx_judgements.specs.Passes.{element_row, room_head}
use Rattle.mintcx_judgements.proofs.pass.rooms_table.Goals as goal

pub overflow_cast-place : goal.overflow_cast-place
overflow_cast-place c =
    omega (arith, c.requires.inside c.loop-place.place-index (0, pos 0, 0) c.loop-place-test.true, c.requires.design.elements)

pub loop-place-preserved : goal.loop-place-preserved
loop-place-preserved c =
    let causes = c.args.causes.now in
    let row : ℕ × ℤ × ℕ → List (List ℕ) = λ p. element_row causes.told.system.now causes.told.schedule.now causes.late.now causes.early.now causes.told.unit p.2 in
    let places = c.args.places.now in
    let i = c.loop-place.place-index in
    record {
      columns = c.in_ok-push-2.ensures.columns ∙ c.loop-place.invariant.columns;
      rows =
          c.in_ok-push-2.ensures.ok ∙ ap (λ (v : List (List (List ℕ))). v ++ c.in_ok-element_row.field-0 ∷ []) c.loop-place.invariant.rows
          ∙ ap (λ (v : List (List ℕ)). (room_head ∷ map row (take i places)) ++ v ∷ []) c.in_ok-element_row.ensures
          ∙ ap (λ (v : List (List (List ℕ))). room_head ∷ v) (sym (map_more row places i (0, pos 0, 0) c.loop-place-test.true));
    }
