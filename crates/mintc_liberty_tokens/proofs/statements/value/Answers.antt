use Rattle.std.proofs.Common.{◌≡◌, [], sym, ap, ◌∙◌}
use Rattle.mintc_liberty_tokens.specs.Tokens.{is_value}
use Rattle.mintc_liberty_tokens.specs.Reading.{after_semicolon, value_rest}
use Rattle.mintc_liberty_tokens.proofs.SharedPassingLaws.{same-tokens, past-none, not-semicolon, both-ways}
use Rattle.mintc_liberty_tokens.proofs.statements.value.Goals as goal

pub returns-clause-passed : goal.returns-clause-passed
returns-clause-passed c =
    let chain : value_rest c.args.scanner.now.tokens ≡ after_semicolon c.pass_value-in-loop.new.scanner.tokens =
    c.loop.invariant.same ∙ ap after_semicolon (past-none is_value c.loop.scanner.tokens c.loop-test.ensures.passed.0 ∙ sym (same-tokens _ _ c.loop-test.ensures.passed.1)) in
    both-ways c.eat_sign.result c.eat_sign.ensures.passed (λ f. chain ∙ ap after_semicolon (f [])) (λ n. chain ∙ not-semicolon c.pass_value-in-loop.new.scanner.tokens n.0)
