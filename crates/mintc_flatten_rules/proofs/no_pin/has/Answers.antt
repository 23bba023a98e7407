use Rattle.std.proofs.Common.{is_some, ap, ◌∙◌}
use Rattle.mintc_flatten_rules.proofs.LackLaws.{found-is}
use Rattle.mintc_flatten_rules.proofs.no_pin.has.Goals as goal

pub returns : goal.returns
returns c = c.is_some.ensures ∙ ap is_some c.find.ensures.place ∙ found-is c.args.name.now c.args.set.now
