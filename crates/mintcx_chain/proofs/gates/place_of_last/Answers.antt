use Rattle.std.proofs.Common.{◌+◌, ◌<◌, ◌==◌, ℕ, get_or, if◌then◌else◌, ap, ◌∙◌, sym, subst}
use Rattle.std.specs.Prelude.{Option, Some, IfSome}
use Rattle.mintcx_chain.proofs.GateLaws.{inside_more, last_more}
use Rattle.mintcx_chain.proofs.gates.place_of_last.Goals as goal

pub loop-at-preserved : goal.loop-at-preserved
loop-at-preserved c =
    let name = c.args.name.now in
    let i = c.loop-at.at in
    record {
      is = c.later-last.ensures ∙ ap (λ (v : Option ℕ). if get_or name i 0 == c.args.byte then Some i else v) c.loop-at.invariant.is ∙ sym (last_more c.args.byte name i c.loop-at-test.true);
      inside = subst (λ (v : Option ℕ). IfSome v (λ n. n < i + 1)) (sym c.later-last.ensures) (inside_more (get_or name i 0 == c.args.byte) i c.loop-at.last c.loop-at.invariant.inside);
    }
