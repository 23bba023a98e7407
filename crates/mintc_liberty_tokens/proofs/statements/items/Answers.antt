use Rattle.std.proofs.Common.{◌≡◌, [], sym, ap, ◌∙◌}
use Rattle.mintc_liberty_tokens.specs.Tokens.{is_item}
use Rattle.mintc_liberty_tokens.specs.Reading.{after_closing, items_rest}
use Rattle.mintc_liberty_tokens.proofs.SharedPassingLaws.{same-tokens, past-none, not-closing, both-ways}
use Rattle.mintc_liberty_tokens.proofs.statements.items.Goals as goal

pub returns-clause-passed : goal.returns-clause-passed
returns-clause-passed c =
    let chain : items_rest c.args.scanner.now.tokens ≡ after_closing c.item.new.scanner.tokens =
    ap after_closing (c.loop.invariant.same ∙ past-none is_item c.loop.scanner.tokens c.loop-test.ensures.passed.0 ∙ sym (same-tokens _ _ c.loop-test.ensures.passed.1)) in
    both-ways c.eat_sign.result c.eat_sign.ensures.passed (λ f. chain ∙ ap after_closing (f [])) (λ n. chain ∙ not-closing c.item.new.scanner.tokens n.0)
