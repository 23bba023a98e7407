use Rattle.std.proofs.Common.{[], sym, ap, ◌∙◌}
use Rattle.mintc_liberty_tokens.specs.Statements.{past_semicolon}
use Rattle.mintc_liberty_tokens.proofs.SharedPassingLaws.{same-tokens, no-semicolon, one-way}
use Rattle.mintc_liberty_tokens.proofs.statements.semicolon.Goals as goal

pub returns-clause-passed : goal.returns-clause-passed
returns-clause-passed c = one-way c.eat_sign.result c.eat_sign.ensures.passed (λ f. sym (ap past_semicolon (f []))) (λ n. same-tokens _ _ n.1 ∙ sym (no-semicolon c.args.scanner.now.tokens n.0))
