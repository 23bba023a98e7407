use Rattle.std.proofs.Common.{◌≡◌, ◌-◌}
use Rattle.std.specs.List.{range_with_len}
use Rattle.mintc_timing.specs.Design.{element_count}
use Rattle.mintcx_verdicts.specs.Arrivals.{first_tardy, first_where, is_tardy}
use Rattle.mintcx_verdicts.proofs.elements.first_tardy.Given as goal

-- none of the elements so far is such
abbrev pub invariant-loop-element : goal.invariant-loop-element
invariant-loop-element l =
    first_where (is_tardy l.arrived.judging.told.system.now l.arrived.judging.told.schedule.now l.arrived.judging.departures.now)
    (range_with_len l.element (element_count l.arrived.judging.told.system.now.flat - l.element))
    ≡ first_tardy l.arrived.judging.told.system.now l.arrived.judging.told.schedule.now l.arrived.judging.departures.now
