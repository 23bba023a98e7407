use Rattle.std.proofs.Common.{ℕ, ◌++◌, length, sym, ap, ◌∙◌, arith, length-drop}
use Rattle.mintcx_clamp.proofs.WordLaws.{word-end, word-step}
use Rattle.mintcx_clamp.proofs.words.put_word.Goals as goal

pub returns-then-size-rest : goal.returns-then-size-rest
returns-then-size-rest c =
    c.in_ok-put_part.ensures ∙ ap (λ x. c.loop-out.out.items ++ x) (sym (word-end c.colon_size-size.result c.loop-out.rest.now c.colon_size-size.ensures.value (omega (arith, c.if-size-rest.true)))) ∙ c.loop-out.invariant.whole

pub overflow_add-size : goal.overflow_add-size
overflow_add-size c = grind (arith, c.if-size-rest.false, c.colon_size-size.ensures.within, c.loop-out.invariant.few, c.type_inv.word)

pub loop-out-preserved : goal.loop-out-preserved
loop-out-preserved c = record {
  whole = word-step c.colon_size-size.result c.loop-out.rest.now c.rest_from-rest.result.now c.loop-out.out.items c.put_part.new.out.items c.push.new.self.items c.colon_size-size.ensures.value
      (omega (arith, c.if-size-rest.false, c.colon_size-size.ensures.within)) c.rest_from-rest.ensures c.in_ok-put_part.ensures c.in_ok-push.ensures.items
      ∙ c.loop-out.invariant.whole;
  few = omega (arith, c.loop-out.invariant.few, ap length c.rest_from-rest.ensures, length-drop {A = ℕ});
}
