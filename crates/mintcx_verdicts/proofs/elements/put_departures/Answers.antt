use Rattle.mintcx_verdicts.proofs.elements.put_departures.Goals as goal

pub returns : goal.returns
returns c = rw (c.in_ok-arrived.ensures.system, c.in_ok-arrived.ensures.schedule, c.in_ok-arrived.ensures.departures, c.in_ok-arrived.ensures.unit) at c.put_first_inexact.ensures
