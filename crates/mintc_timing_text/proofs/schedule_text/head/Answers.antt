use Rattle.std.proofs.Common.{refl}
use Rattle.mintc_timing_text.specs.Texts.{NextAlone, den, cycle, phases, no_phases, phase}
use Rattle.mintc_timing.proofs.SharedFitting.{read_time, IsTime-IsDenominator, IsTime-IsNumerator}
use Rattle.mintc_timing_text.proofs.SharedReadingLaws.{passed_none, passed_stop, passed_more}
use Rattle.mintc_timing_text.proofs.schedule_text.head.Goals as goal

pub returns-in_err-den-clause-read : goal.returns-in_err-den-clause-read
returns-in_err-den-clause-read c =
    rw c.from_residual.ensures (passed_stop (passed_none NextAlone den c.args.reader.now) c.in_err-den.ensures.read c.in_err-den.ensures.counted (λ e. e) (λ line after step. (step.0, step.1)))

pub returns-in_err-cycle-clause-read : goal.returns-in_err-cycle-clause-read
returns-in_err-cycle-clause-read c =
    let one = passed_more c.number_line.new.self (cycle c.in_ok-den.den) (passed_none NextAlone den c.args.reader.now) c.in_ok-den.ensures.read c.in_ok-den.ensures.counted (λ line spells. (_, spells, refl)) in
    rw c.from_residual-in_err-cycle.ensures (passed_stop one c.in_err-cycle.ensures.read c.in_err-cycle.ensures.counted (λ e. e) (λ line after step. (step.0, step.1)))

pub returns-in_err-count-clause-read : goal.returns-in_err-count-clause-read
returns-in_err-count-clause-read c =
    let one = passed_more c.number_line.new.self (cycle c.in_ok-den.den) (passed_none NextAlone den c.args.reader.now) c.in_ok-den.ensures.read c.in_ok-den.ensures.counted (λ line spells. (_, spells, refl)) in
    let two = passed_more c.number_line-2.new.self (phases c.in_ok-den.den c.in_ok-cycle.cycle) one c.in_ok-cycle.ensures.read c.in_ok-cycle.ensures.counted (λ line spells. (_, spells, refl)) in
    rw c.from_residual-in_err-count.ensures (passed_stop two c.in_err-count.ensures.read c.in_err-count.ensures.counted (λ e. e) (λ line after step. (step.0, step.1)))

pub returns-clause-read : goal.returns-clause-read
returns-clause-read c =
    let one = passed_more c.number_line.new.self (cycle c.in_ok-den.den) (passed_none NextAlone den c.args.reader.now) c.in_ok-den.ensures.read c.in_ok-den.ensures.counted (λ line spells. (_, spells, refl)) in
    let two = passed_more c.number_line-2.new.self (phases c.in_ok-den.den c.in_ok-cycle.cycle) one c.in_ok-cycle.ensures.read c.in_ok-cycle.ensures.counted (λ line spells. (_, spells, refl)) in
    let d_read = c.in_ok-den.ensures.read.spells.1.0 in
    let t_read = c.in_ok-cycle.ensures.read.spells.1.0 in
    rw (read_time c.in_ok-den.den (IsTime-IsDenominator c.in_ok-den.den d_read), read_time c.in_ok-cycle.cycle (IsTime-IsNumerator c.in_ok-cycle.cycle t_read))
    (passed_more c.count_line.new.self (phase c.in_ok-count.count (no_phases c.in_ok-den.den c.in_ok-cycle.cycle)) two c.in_ok-count.ensures.read c.in_ok-count.ensures.counted (λ line spells. (_, spells, refl)))
