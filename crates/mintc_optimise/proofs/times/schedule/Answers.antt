use Rattle.mintc_optimise.proofs.TimesLaws.{schedule_in}
use Rattle.mintc_optimise.proofs.times.schedule.Goals as goal

pub returns-clause-in_range : goal.returns-clause-in_range
returns-clause-in_range c =
    schedule_in c.args.system.now c.args.cycle.now c.args.values.now c.den.result c.num.result c.starts.result c.widths.result c.flat-flat.ensures.design c.requires.cycle
    c.den.ensures.value c.num.ensures (rw c.flat-flat.ensures.value at c.starts.ensures.value) c.starts.ensures.in_range (rw c.flat-flat.ensures.value at c.widths.ensures.value) c.widths.ensures.in_range
