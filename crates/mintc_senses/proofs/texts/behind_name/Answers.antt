use Rattle.std.proofs.Common.{◌≡◌, [], List, Option, option_and_then, ap, ◌∙◌}
use Rattle.mintc_liberty_tokens.specs.Tokens.{Token, after_closing, after_left}
use Rattle.mintc_liberty.specs.Texts.{behind_name}
use Rattle.mintc_liberty_tokens.proofs.SharedPassingLaws.{both-ways, not-closing}
use Rattle.mintc_senses.proofs.GroupLaws.{not-left}
use Rattle.mintc_senses.proofs.texts.behind_name.Goals as goal

abbrev behind_item : Option (List Token) → Option (List Token)
behind_item o = option_and_then after_left (option_and_then after_closing o)

pub returns-then-not-item : goal.returns-then-not-item
returns-then-not-item c = ap behind_name (c.if-not-eat_sign.ensures []) ∙ ap behind_item c.if-not-item.ensures.0

pub returns-then-not-eat_sign-2 : goal.returns-then-not-eat_sign-2
returns-then-not-eat_sign-2 c =
    ap behind_name (c.if-not-eat_sign.ensures []) ∙ ap behind_item c.if-not-item.ensures
    ∙ ap (option_and_then after_left) (not-closing c.item.new.reader c.if-not-eat_sign-2.ensures.0)

pub returns : goal.returns
returns c =
    let chain : behind_name c.args.reader.now ≡ after_left c.eat_sign-2.new.reader =
    ap behind_name (c.if-not-eat_sign.ensures []) ∙ ap behind_item c.if-not-item.ensures
    ∙ ap (λ ts. option_and_then after_left (after_closing ts)) (c.if-not-eat_sign-2.ensures []) in
    both-ways c.eat_sign-3.result c.eat_sign-3.ensures (λ f. chain ∙ ap after_left (f [])) (λ n. chain ∙ not-left c.eat_sign-2.new.reader n.0)
