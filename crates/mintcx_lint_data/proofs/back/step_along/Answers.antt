use Rattle.mintcx_lint_data.proofs.BackLaws.{one_more}
use Rattle.std.proofs.Common.{length}
use Rattle.mintcx_lint_data.proofs.back.step_along.Goals as goal

pub returns : goal.returns
returns c = λ joins h.
    one_more c.args.join.now joins (length c.args.found.now.items) c.args.found.now.items c.requires.from c.requires.to h
