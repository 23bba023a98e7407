use Rattle.std.proofs.Common.{◌≡◌, [], List, Option, option_and_then, ap, ◌∙◌}
use Rattle.mintc_liberty_tokens.specs.Tokens.{Token, after_closing, after_left}
use Rattle.mintc_liberty_tokens.proofs.SharedPassingLaws.{both-ways, not-closing}
use Rattle.mintcx_places.specs.Library.{behind_name}
use Rattle.mintcx_places.proofs.HeadLaws.{not-left}
use Rattle.mintcx_places.proofs.library.pass_name.Goals as goal

abbrev behind_item : Option (List Token) → Option (List Token)
behind_item o = option_and_then after_left (option_and_then after_closing o)

pub returns-then-not-item-clause-passed : goal.returns-then-not-item-clause-passed
returns-then-not-item-clause-passed c = ap behind_name (c.if-not-eat_sign.ensures.passed []) ∙ ap behind_item c.if-not-item.ensures.passed.0

pub returns-then-not-eat_sign-2-clause-passed : goal.returns-then-not-eat_sign-2-clause-passed
returns-then-not-eat_sign-2-clause-passed c =
    ap behind_name (c.if-not-eat_sign.ensures.passed []) ∙ ap behind_item c.if-not-item.ensures.passed
    ∙ ap (option_and_then after_left) (not-closing c.item.new.scanner.tokens c.if-not-eat_sign-2.ensures.passed.0)

pub returns-clause-passed : goal.returns-clause-passed
returns-clause-passed c =
    let chain : behind_name c.args.scanner.now.tokens ≡ after_left c.eat_sign-2.new.scanner.tokens =
    ap behind_name (c.if-not-eat_sign.ensures.passed []) ∙ ap behind_item c.if-not-item.ensures.passed
    ∙ ap (λ ts. option_and_then after_left (after_closing ts)) (c.if-not-eat_sign-2.ensures.passed []) in
    both-ways c.eat_sign-3.result c.eat_sign-3.ensures.passed (λ f. chain ∙ ap after_left (f [])) (λ n. chain ∙ not-left c.eat_sign-2.new.scanner.tokens n.0)
