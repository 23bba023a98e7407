use Rattle.std.proofs.Common.{[], Some, None, sym, ap, ◌∙◌}
use Rattle.mintc_liberty_tokens.specs.Tokens.{word_at}
use Rattle.mintc_liberty_cell.proofs.SharedGroupLaws.{group-by}
use Rattle.mintc_liberty_cell.proofs.groups.group_at.Goals as goal

pub returns-in-Some-body-clause-some : goal.returns-in-Some-body-clause-some
returns-in-Some-body-clause-some c =
    group-by c.args.reader.now c.word.new.self c.eat_sign.new.reader c.in-Some.name.now (Some c.in-Some-body.inside) (ap word_at (sym c.copy-items.ensures) ∙ c.in-Some.ensures.some)
    (c.if-not-eat_sign.ensures []) c.in-Some-body.ensures

pub returns-in-None-clause-none : goal.returns-in-None-clause-none
returns-in-None-clause-none c =
    group-by c.args.reader.now c.word.new.self c.eat_sign.new.reader c.in-Some.name.now None (ap word_at (sym c.copy-items.ensures) ∙ c.in-Some.ensures.some)
    (c.if-not-eat_sign.ensures []) c.in-None.ensures
