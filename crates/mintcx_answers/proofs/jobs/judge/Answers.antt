use Rattle.std.proofs.Common.{◌≡◌, ℤ, List, length, arith, sym, subst}
use Rattle.std.specs.Vec.{vec_len}
use Rattle.mintc_timing.specs.Departures.{AreEarly, AreLate}
use Rattle.mintcx_answers.proofs.JobLaws.{is_none, is_pass}
use Rattle.mintcx_answers.proofs.jobs.judge.Goals as goal

pub told_fail-requires-clause-violations : goal.told_fail-requires-clause-violations
told_fail-requires-clause-violations c = rw c.as_slice.ensures.value c.in_ok-violations.ensures.violations

pub returns-then-is_empty : goal.returns-then-is_empty
returns-then-is_empty c =
    let t = c.args.system.now in
    let s = c.args.schedule.now in
    let found = c.in_ok-violations.violations in
    let count : vec_len found ≡ length found.items = grind arith in
    let none = is_none found.items (vec_len found) c.is_empty.result count c.is_empty.ensures c.if-is_empty.true in
    let is_late = subst (λ (d : List ℤ). AreLate t s d) (sym c.late.ensures) (c.in_ok-violations.ensures.late none) in
    let is_early = subst (λ (d : List ℤ). AreEarly t s d) (sym c.early.ensures) (c.in_ok-violations.ensures.early none) in
    is_pass t s c.args.aspect c.args.view.now found.items c.late.result.now c.early.result.now c.in_ok-text.text none c.in_ok-violations.ensures.violations is_late is_early c.in_ok-text.ensures
