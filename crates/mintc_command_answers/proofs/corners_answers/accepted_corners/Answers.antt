use Rattle.std.proofs.lemmas.Grind.{common_steps}
use Rattle.std.proofs.lemmas.Result.{err_from_is_err_and}
use Rattle.std.proofs.Common.{◌≤◌, List, length, drop, ap, subst, arith}
use Rattle.mintc_timing.specs.Design.{Timing}
use Rattle.mintc_command_answers.specs.Corners.{AreTooMany, elements_together}
use Rattle.mintc_command_answers.proofs.CornerLaws.{AreCorners-given, AreGiven-all, as_many_all, delay_files, stopped_corners}
use Rattle.mintc_command_answers.proofs.corners_answers.accepted_corners.Goals as goal

pub corner_systems-requires-clause-few : goal.corner_systems-requires-clause-few
corner_systems-requires-clause-few c = grind (arith, common_steps)

pub returns-in_err-systems-clause-stop : goal.returns-in_err-systems-clause-stop
returns-in_err-systems-clause-stop c =
    let p = err_from_is_err_and c.from_residual.result c.from_residual.ensures.1 in
    rw (p.1, p.2) (stopped_corners c.args.limits.now c.args.texts.now _ c.in_err-systems.field-0.0 (delay_files c.args.texts.now) c.in_err-systems.ensures.stop)

pub too_many-requires-clause-few : goal.too_many-requires-clause-few
too_many-requires-clause-few c =
    let given = AreGiven-all c.args.limits.now c.args.texts.now _ c.in_ok-systems.systems.items (delay_files c.args.texts.now) c.in_ok-systems.ensures.value in
    let many = as_many_all c.args.limits.now c.args.texts.now c.args.count c.in_ok-systems.systems.items c.requires.count given in
    let seen = ap (λ (x : List Timing). length x) c.as_slice.ensures.value in
    let few = c.requires.in_range.1 in
    omega (arith, many, seen, few)

pub returns-in-Some-clause-stop : goal.returns-in-Some-clause-stop
returns-in-Some-clause-stop c =
    let given = AreGiven-all c.args.limits.now c.args.texts.now _ c.in_ok-systems.systems.items (delay_files c.args.texts.now) c.in_ok-systems.ensures.value in
    let over = subst (λ (x : List Timing). AreTooMany c.args.limits.now x c.in-Some.refusal) c.as_slice.ensures.value c.in-Some.ensures.too_many in
    (c.in_ok-systems.systems.items, given, over)

pub returns : goal.returns
returns c =
    let given = AreGiven-all c.args.limits.now c.args.texts.now _ c.in_ok-systems.systems.items (delay_files c.args.texts.now) c.in_ok-systems.ensures.value in
    let many = as_many_all c.args.limits.now c.args.texts.now c.args.count c.in_ok-systems.systems.items c.requires.count given in
    let some = c.requires.in_range.0 in
    let within = subst (λ (x : List Timing). elements_together x ≤ c.args.limits.now.elements) c.as_slice.ensures.value c.in_default.ensures.too_many in
    record {
      given = given;
      within = within;
      few = omega (arith, within, c.in_default.ensures.limit);
      count = many;
      alike = AreCorners-given c.args.limits.now c.corners_differ_in_numbers.ensures c.args.texts.now (drop 3 c.args.texts.now) c.in_ok-systems.systems.items (omega (arith, many, some)) given;
      stop = tt;
    }
