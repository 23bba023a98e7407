use Rattle.std.proofs.Common.{◌<◌, ◌≤◌, length, pos, arith, append_assoc, ap, ◌∙◌}
use Rattle.std.specs.List.{enumerate_from}
use Rattle.std.proofs.lemmas.List.{take_all}
use Rattle.std.proofs.lemmas.List.FromFn.{length-enumerate_from}
use Rattle.mintc_timing.specs.declared.parts.Bound.{Bound}
use Rattle.mintc_timing.specs.declared.parts.Point.TheVariants as point
use Rattle.mintc_timing.specs.declared.violation.Broken.TheVariants as broken
use Rattle.mintc_timing.specs.Design.{Design}
use Rattle.mintc_timing.specs.Violations.{check}
use Rattle.mintc_timing.proofs.SharedFitting.{read_time}
use Rattle.mintc_departure.specs.Checks.{bound_check}
use Rattle.mintc_departure.proofs.FailedLaws.{numbered-more}
use Rattle.mintc_departure.proofs.clock_checks.judge_bounds.Goals as goal

abbrev no_bound : Bound
no_bound = record { from = point.Origin; to = point.Origin; gap = pos 0; cycles = 0 }

pub loop-number-preserved : goal.loop-number-preserved
loop-number-preserved c =
    let all = c.args.clocked.now.system.now.flat.bounds in
    let n = c.loop-number.number in
    let bounds = c.bounds-bounds.ensures.value ∙ ap (λ (d : Design). d.bounds) c.flat.ensures.value in
    let h : n < length all = rw bounds at c.loop-number-test.true in
    let amount = ap (check (broken.Bound n)) (read_time c.bound_excess.result c.bound_excess.ensures.range ∙ rw bounds at c.bound_excess.ensures.value) in
    grind (arith, append_assoc, numbered-more (bound_check c.args.clocked.now.schedule.now) all n no_bound h, amount)

pub returns : goal.returns
returns c =
    let all = c.args.clocked.now.system.now.flat.bounds in
    let bounds = c.bounds-bounds.ensures.value ∙ ap (λ (d : Design). d.bounds) c.flat.ensures.value in
    let h : length all ≤ c.loop-number.number = rw bounds at c.loop-number-test.false in
    rw (take_all c.loop-number.number (enumerate_from 0 all) (rw (length-enumerate_from 0 all) h)) at c.loop-number.invariant
