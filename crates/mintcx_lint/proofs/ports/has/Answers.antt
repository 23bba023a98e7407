use Rattle.std.proofs.Common.{is_some, ap, ◌∙◌}
use Rattle.mintcx_lint.proofs.LeavingLaws.{found_is}
use Rattle.mintcx_lint.proofs.ports.has.Goals as goal

pub returns : goal.returns
returns c = c.is_some.ensures ∙ ap is_some c.find.ensures.place ∙ found_is c.args.name.now c.args.names.now
