use Rattle.std.proofs.Common.{refl}
use Rattle.mintc_timing_text.specs.Texts.{den, body, whole, IsLast}
use Rattle.mintc_timing_text.proofs.SharedReadingLaws.{at_end, at_fault, at_more, at_past}
use Rattle.mintc_timing_text.proofs.SharedScheduleReading.{schedule_read, schedule_fault}
use Rattle.mintc_timing_text.proofs.schedule_text.schedule.Goals as goal

pub returns-in_err-count_line : goal.returns-in_err-count_line
returns-in_err-count_line c = λ text at.
    rw c.from_residual.ensures (at_fault at c.in_err-count_line.ensures.read c.in_err-count_line.ensures.counted (λ e. e) (λ line after step. (step.0, step.1)))

pub returns-in_err-schedule : goal.returns-in_err-schedule
returns-in_err-schedule c = λ text at.
    let one = at_more c.count_line.new.self (body den) at c.in_ok-count_line.ensures.read c.in_ok-count_line.ensures.counted (λ line spells. (_, spells, refl)) in
    rw c.from_residual-in_err-schedule.ensures (schedule_fault body IsLast (λ l line b h. h) (λ l line b h. h) (λ l e. e) one c.in_err-schedule.ensures)

pub returns-in_err-word_line : goal.returns-in_err-word_line
returns-in_err-word_line c = λ text at.
    let one = at_more c.count_line.new.self (body den) at c.in_ok-count_line.ensures.read c.in_ok-count_line.ensures.counted (λ line spells. (_, spells, refl)) in
    let read = schedule_read body IsLast (λ l line b h. h) one c.in_ok-schedule.ensures in
    rw c.from_residual-in_err-word_line.ensures (at_fault read c.in_err-word_line.ensures.read c.in_err-word_line.ensures.counted (λ e. e) (λ line after step. (step.0, step.1)))

pub returns-in_err-end : goal.returns-in_err-end
returns-in_err-end c = λ text at.
    let one = at_more c.count_line.new.self (body den) at c.in_ok-count_line.ensures.read c.in_ok-count_line.ensures.counted (λ line spells. (_, spells, refl)) in
    let read = schedule_read body IsLast (λ l line b h. h) one c.in_ok-schedule.ensures in
    let ended = at_more c.word_line.new.self (whole c.in_ok-schedule.schedule) read c.in_ok-word_line.ensures.read c.in_ok-word_line.ensures.counted (λ line spells. (_, spells, refl)) in
    rw c.from_residual-in_err-end.ensures (at_past ended c.in_err-end.ensures.read c.in_err-end.ensures.counted (λ line after step. step))

pub returns : goal.returns
returns c = λ text at.
    let one = at_more c.count_line.new.self (body den) at c.in_ok-count_line.ensures.read c.in_ok-count_line.ensures.counted (λ line spells. (_, spells, refl)) in
    let read = schedule_read body IsLast (λ l line b h. h) one c.in_ok-schedule.ensures in
    at_end (at_more c.word_line.new.self (whole c.in_ok-schedule.schedule) read c.in_ok-word_line.ensures.read c.in_ok-word_line.ensures.counted (λ line spells. (_, spells, refl))) c.in_ok-end.ensures.read
