use Rattle.std.proofs.Common.{◌≡◌, true, List, arith, subst}
use Rattle.std.proofs.lemmas.Grind.{common_steps}
use Rattle.std.proofs.lemmas.List.{take_all}
use Rattle.std.proofs.lemmas.List.Elements.{All-more}
use Rattle.mintc_timing.specs.declared.violation.Violation.{Violation}
use Rattle.mintcx_answers.specs.Clocks.{AreHolds, is_hold}
use Rattle.mintcx_answers.proofs.clocks.are_holds.Goals as goal

pub loop-violation-preserved : goal.loop-violation-preserved
loop-violation-preserved c =
    let held : is_hold c.violation-item.result ≡ true = grind (arith, common_steps, c.is_hold.ensures) in
    All-more (λ v. is_hold v ≡ true) c.args.violations.now c.loop-violation.violation-index c.violation-item.result c.loop-violation-test.true c.loop-violation.invariant
    (subst (λ (v : Violation). is_hold v ≡ true) c.violation-item.is held)

pub returns-clause-yes : goal.returns-clause-yes
returns-clause-yes c = λ e.
    subst (λ (vs : List Violation). AreHolds vs) (take_all c.loop-violation.violation-index c.args.violations.now c.loop-violation-test.false) c.loop-violation.invariant
