use Rattle.std.proofs.Common.{◌+◌, ◌<◌, ◌++◌, ◌∷◌, [], length, ap, ◌∙◌, arith, length-drop}
use Rattle.mintc_sdf_tokens.proofs.WordLaws.{names-turn, names-end}
use Rattle.mintc_sdf_tokens.proofs.words.names.Goals as goal

pub returns-then-size-rest : goal.returns-then-size-rest
returns-then-size-rest c =
    c.new.ensures
    ∙ names-end _ _ _ _ _ _ c.piece_size-size.ensures.value c.if-size-rest.true c.loop-out.invariant.whole
    (c.in_ok-push_name.ensures ∙ ap (λ n. c.loop-out.out.items ++ n ∷ []) c.in_ok-without_escapes.ensures)

pub overflow_add-size : goal.overflow_add-size
overflow_add-size c = omega (arith, c.loop-out.invariant.few, c.piece_size-size.ensures.within)

pub loop-out-preserved : goal.loop-out-preserved
loop-out-preserved c =
    let size : c.piece_size-size.result < length c.loop-out.rest.now = omega (arith, c.piece_size-size.ensures.within, c.if-size-rest.false) in
    record {
      few = omega (arith, c.loop-out.invariant.few, ap length c.rest_from-rest.ensures, length-drop (c.piece_size-size.result + 1) c.loop-out.rest.now);
      whole = names-turn _ _ _ _ _ _ _ c.piece_size-size.ensures.value size c.loop-out.invariant.whole
          (c.in_ok-push_name.ensures ∙ ap (λ n. c.loop-out.out.items ++ n ∷ []) c.in_ok-without_escapes.ensures) c.rest_from-rest.ensures;
    }
