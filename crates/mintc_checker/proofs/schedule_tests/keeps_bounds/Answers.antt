use Rattle.std.proofs.Common.{◌<◌, ◌≤◌, length}
use Rattle.std.proofs.lemmas.List.{take_all}
use Rattle.std.proofs.lemmas.List.Elements.{All-more}
use Rattle.mintc_timing.specs.Clocking.{KeepsBound}
use Rattle.mintc_certificate.specs.Valid.{no_bound}
use Rattle.mintc_checker.proofs.Deciding.{holds}
use Rattle.mintc_checker.proofs.schedule_tests.keeps_bounds.Goals as goal

pub loop-bound-preserved : goal.loop-bound-preserved
loop-bound-preserved c =
    let inside : c.loop-bound.bound-index < length c.args.clocked.now.flat.now.bounds = rw c.bounds-bound-items.ensures.value at c.loop-bound-test.true in
    All-more (KeepsBound c.args.clocked.now.schedule.now) c.args.clocked.now.flat.now.bounds c.loop-bound.bound-index no_bound inside c.loop-bound.invariant
    ((rw c.bounds-bound-items.ensures.value at c.keeps_bound.ensures).0 c.if-not-keeps_bound.false)

pub returns : goal.returns
returns c =
    let all : length c.args.clocked.now.flat.now.bounds ≤ c.loop-bound.bound-index = rw c.bounds-bound-items.ensures.value at c.loop-bound-test.false in
    holds (rw (take_all c.loop-bound.bound-index c.args.clocked.now.flat.now.bounds all) at c.loop-bound.invariant)
