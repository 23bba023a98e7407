use Rattle.std.proofs.Common.{◌∙◌}
use Rattle.mintc_flatten_binding.specs.NetsOfModules.{source_in}
use Rattle.mintc_flatten.proofs.LimitLaws.{judged}
use Rattle.mintc_flatten.proofs.limits.check_limits.Goals as goal

pub returns-in-None-clause-passes : goal.returns-in-None-clause-passes
returns-in-None-clause-passes c =
    judged c.args.limits.now c.most-most.ensures.kept (source_in c.args.source.now) c.args.order.now c.in_ok-table.table.items c.args.top c.index.result.now c.first_limit.result
    c.requires.whole c.in_ok-table.ensures.each c.in_ok-table.ensures.length c.requires.top c.requires.live c.index.ensures (rw c.most-most.ensures.value at c.first_limit.ensures)
    ∙ c.in-None.is

pub returns-clause-stop : goal.returns-clause-stop
returns-clause-stop c =
    judged c.args.limits.now c.most-most.ensures.kept (source_in c.args.source.now) c.args.order.now c.in_ok-table.table.items c.args.top c.index.result.now c.first_limit.result
    c.requires.whole c.in_ok-table.ensures.each c.in_ok-table.ensures.length c.requires.top c.requires.live c.index.ensures (rw c.most-most.ensures.value at c.first_limit.ensures)
    ∙ c.in-Some.is
