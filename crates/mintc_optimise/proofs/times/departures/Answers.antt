use Rattle.std.proofs.Common.{arith}
use Rattle.mintc_optimise.proofs.TimesLaws.{IsTime-IsDeparture, said_more}
use Rattle.mintc_optimise.proofs.times.departures.Goals as goal

pub loop-number-preserved : goal.loop-number-preserved
loop-number-preserved c =
    said_more 0 c.loop-number.number c.loop-number.number c.departure.result c.loop-number.departures.items c.push.new.self.items (omega arith)
    (IsTime-IsDeparture c.departure.result c.departure.ensures.in_range) c.departure.ensures.value c.departure.ensures.in_range c.loop-number.invariant c.in_ok-push.ensures.items
