use Rattle.std.proofs.Common.{◌∙◌, false, true, arith}
use Rattle.std.specs.Bool.{beq}
use Rattle.mintcx_lint.specs.Leaving.{is_left}
use Rattle.mintcx_lint.proofs.LeavingLaws.{counts_are}
use Rattle.mintcx_lint.proofs.ports.counted.Goals as goal

pub returns-clause-inputs : goal.returns-clause-inputs
returns-clause-inputs c =
    c.count_left.ensures.value ∙ counts_are (λ p. beq p.output false) (is_left c.args.named.now.phases.now c.args.named.now.listed) c.args.ports.now

pub returns-clause-outputs : goal.returns-clause-outputs
returns-clause-outputs c =
    c.count_left-2.ensures.value ∙ counts_are (λ p. beq p.output true) (is_left c.args.named.now.phases.now c.args.named.now.listed) c.args.ports.now

pub returns-clause-few : goal.returns-clause-few
returns-clause-few c = omega (arith, c.count_left.ensures.small, c.count_left-2.ensures.small)
