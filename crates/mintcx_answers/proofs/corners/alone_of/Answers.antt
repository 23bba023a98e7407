use Rattle.std.proofs.Common.{List, subst, arith}
use Rattle.std.proofs.lemmas.List.{get_or_read, take_all}
use Rattle.std.specs.List.{AllZip}
use Rattle.mintc_corners.specs.Joined.{no_timing}
use Rattle.mintc_command_answers.specs.Jobs.{IsOptimum}
use Rattle.mintc_timing.specs.Design.{Timing}
use Rattle.mintcx_answers.proofs.CornerLaws.{one_more}
use Rattle.mintcx_answers.proofs.corners.alone_of.Goals as goal

pub loop-system-init : goal.loop-system-init
loop-system-init c = rw c.new-alone.ensures.items tt

pub loop-system-preserved : goal.loop-system-preserved
loop-system-preserved c =
    let below = c.loop-system-test.true in
    let own = get_or_read c.args.systems.now c.loop-system.system-index c.system-item.result below c.system-item.is no_timing in
    one_more IsOptimum c.args.systems.now c.loop-system.system-index c.loop-system.alone.items c.push.new.self.items c.system-item.result no_timing c.in_ok-certificate.certificate below own c.in_ok-push.ensures.items
    c.loop-system.invariant c.in_ok-certificate.ensures.optimum

pub returns : goal.returns
returns c =
    subst (λ (x : List Timing). AllZip IsOptimum x c.loop-system.alone.items) (take_all c.loop-system.system-index c.args.systems.now c.loop-system-test.false) c.loop-system.invariant
