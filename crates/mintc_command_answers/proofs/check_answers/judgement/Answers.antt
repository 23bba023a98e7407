use Rattle.std.proofs.Common.{◌≡◌, ◌≢◌, Bool, true, false, List, [], length, ap, refl, arith}
use Rattle.std.specs.Bool.{◌==◌}
use Rattle.std.proofs.lemmas.List.{nil_from_length}
use Rattle.std.proofs.lemmas.Bool.Decides.{nat_tests}
use Rattle.mintc_timing.specs.declared.violation.Violation.{Violation}
use Rattle.mintc_command_answers.proofs.JudgementLaws.{IsJudgement-pass, IsJudgement-fail, NamePairs-seen}
use Rattle.mintc_command_answers.proofs.check_answers.judgement.Goals as goal

is_none : (vs : List Violation) (empty : Bool) → empty ≡ (length vs == 0) → empty ≡ true → vs ≡ []
is_none vs empty is holds =
    let count : length vs ≡ 0 = grind (arith, nat_tests) in
    nil_from_length vs count

is_some : (vs : List Violation) (empty : Bool) → empty ≡ (length vs == 0) → empty ≡ false → vs ≢ []
is_some vs empty is fails none =
    let count : length vs ≡ 0 = ap length none in
    grind (arith, nat_tests)

pub pass_text-requires-clause-late : goal.pass_text-requires-clause-late
pass_text-requires-clause-late c = c.requires.late (is_none c.args.violations.now c.is_empty.result c.is_empty.ensures c.if-is_empty.true)

pub pass_text-requires-clause-early : goal.pass_text-requires-clause-early
pass_text-requires-clause-early c = c.requires.early (is_none c.args.violations.now c.is_empty.result c.is_empty.ensures c.if-is_empty.true)

pub returns-in_ok-text : goal.returns-in_ok-text
returns-in_ok-text c =
    let none = is_none c.args.violations.now c.is_empty.result c.is_empty.ensures c.if-is_empty.true in
    IsJudgement-pass c.args.system.now c.args.schedule.now c.args.violations.now c.args.room.now.late c.args.room.now.early _ _ _ none c.requires.violations (c.requires.late none) (c.requires.early none)
    c.in_ok-text.ensures c.new.ensures.status c.new.ensures.text

pub fail_text-requires-clause-named : goal.fail_text-requires-clause-named
fail_text-requires-clause-named c = NamePairs-seen c.violations_name_pairs.ensures c.args.system.now c.args.schedule.now c.args.violations.now c.args.violations.now refl c.requires.violations

pub fail_text-requires-clause-some : goal.fail_text-requires-clause-some
fail_text-requires-clause-some c = is_some c.args.violations.now c.is_empty.result c.is_empty.ensures c.if-is_empty.false

pub returns-in_ok-text-2 : goal.returns-in_ok-text-2
returns-in_ok-text-2 c =
    IsJudgement-fail c.args.system.now c.args.schedule.now c.args.violations.now c.args.violations.now _ _ _
    (is_some c.args.violations.now c.is_empty.result c.is_empty.ensures c.if-is_empty.false) refl c.requires.violations c.in_ok-text-2.ensures c.new-else-is_empty.ensures.status c.new-else-is_empty.ensures.text
