use Rattle.std.proofs.Common.{◌≤◌, List, length, ap, sym, subst, arith}
use Rattle.mintc_text.specs.declared.limits.TheConstants.{MOST_ELEMENTS}
use Rattle.mintc_timing.specs.Design.{Timing}
use Rattle.mintc_corners.specs.Joint.{AreCorners}
use Rattle.mintc_command_answers.specs.Corners.{elements_together}
use Rattle.mintc_command_answers.proofs.CornerLaws.{answered_corners, refused_corner, refused_number}
use Rattle.mintc_command_answers.proofs.corners_answers.corners_answer.Goals as goal

pub returns-in-Err-Refused-clause-value : goal.returns-in-Err-Refused-clause-value
returns-in-Err-Refused-clause-value c =
    refused_corner c.args.limits.now c.refused_corner.result c.args.count c.args.texts.now c.in-Err-Refused.corner _ c.requires.short (rw c.in-Err-Refused.field-0-is at c.in-Err-Refused.ensures.stop)
    c.refused_corner.ensures.status c.refused_corner.ensures.text

pub returns-in-Err-TooMany-clause-value : goal.returns-in-Err-TooMany-clause-value
returns-in-Err-TooMany-clause-value c =
    let (ts, given, over) = rw c.in-Err-TooMany.field-0-is at c.in-Err-TooMany.ensures.stop in
    refused_number c.args.limits.now c.refusal_answer.result c.args.count c.args.texts.now ts _ c.requires.short given over c.refusal_answer.ensures.status c.refusal_answer.ensures.text

pub optimum_of-requires-clause-some : goal.optimum_of-requires-clause-some
optimum_of-requires-clause-some c =
    let seen = ap (λ (x : List Timing). length x) c.as_slice.ensures.value in
    let many = c.in-Ok.ensures.count in
    let some = c.requires.in_range.0 in
    omega (arith, seen, many, some)

pub optimum_of-requires-clause-few : goal.optimum_of-requires-clause-few
optimum_of-requires-clause-few c =
    let seen = ap (λ (x : List Timing). length x) c.as_slice.ensures.value in
    let many = c.in-Ok.ensures.count in
    let few = c.requires.in_range.1 in
    omega (arith, seen, many, few)

pub optimum_of-requires-clause-alike : goal.optimum_of-requires-clause-alike
optimum_of-requires-clause-alike c = subst AreCorners (sym c.as_slice.ensures.value) c.in-Ok.ensures.alike

pub optimum_of-requires-clause-elements : goal.optimum_of-requires-clause-elements
optimum_of-requires-clause-elements c =
    subst (λ (x : List Timing). elements_together x ≤ MOST_ELEMENTS) (sym c.as_slice.ensures.value) c.in-Ok.ensures.few

pub returns-in-Ok-clause-value : goal.returns-in-Ok-clause-value
returns-in-Ok-clause-value c =
    let answer = rw c.as_slice.ensures.value at c.optimum_of.ensures in
    answered_corners c.args.limits.now c.optimum_of.result c.args.count c.args.texts.now c.in-Ok.systems.items c.requires.short c.in-Ok.ensures.given c.in-Ok.ensures.within answer
