use Rattle.std.proofs.Common.{[], Some, option_and_then, sym, ap, ◌∙◌}
use Rattle.mintc_liberty_tokens.specs.Tokens.{after_left}
use Rattle.mintc_liberty_tokens.specs.Reading.{items_rest}
use Rattle.mintc_liberty_cell.proofs.groups.body.Goals as goal

pub returns-then-eat_sign : goal.returns-then-eat_sign
returns-then-eat_sign c = ap (option_and_then after_left) (ap items_rest (sym c.copy-inside.ensures) ∙ c.if-not-items.ensures ∙ ap Some (c.if-eat_sign.ensures []))
