use Rattle.std.proofs.Common.{ℕ, ℤ, ◌∷◌, [], ◌++◌, map, ap, ◌∙◌, sym, arith}
use Rattle.std.specs.List.{range_with_len}
use Rattle.std.proofs.lemmas.List.FromFn.{map-range_with_len_more}
use Rattle.mintcx_judgements.specs.Passes.{room_place, setup_room}
use Rattle.mintcx_judgements.proofs.rooms.by_room.Goals as goal

pub loop-element-preserved : goal.loop-element-preserved
loop-element-preserved c =
    let causes = c.args.causes.now in
    let place : ℕ → ℕ × ℤ × ℕ = λ k. room_place k (setup_room causes.told.system.now causes.told.schedule.now causes.late.now k) in
    let element = c.loop-element.element in
    c.in_ok-push.ensures.items ∙ ap (λ v. v ++ c.place.result ∷ []) c.loop-element.invariant
    ∙ ap (λ v. map place (range_with_len 0 element) ++ v ∷ []) (c.place.ensures ∙ ap (room_place element) c.setup_room.ensures.value)
    ∙ sym (map-range_with_len_more place 0 element element (omega arith))
