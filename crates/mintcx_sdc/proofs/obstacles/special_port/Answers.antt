use Rattle.std.proofs.Common.{length, ◌∙◌, sym}
use Rattle.mintcx_sdc.specs.Obstacles.{is_special_at}
use Rattle.mintcx_sdc.proofs.FirstLaws.{found, none_left, passed}
use Rattle.mintcx_sdc.proofs.PortLaws.{special_here}
use Rattle.mintcx_sdc.proofs.obstacles.special_port.Goals as goal

pub loop-at-preserved : goal.loop-at-preserved
loop-at-preserved c =
    let ports = c.args.ports.now in
    passed (is_special_at ports) (length ports) c.loop-at.at c.loop-at-test.true
    (special_here ports c.loop-at.at c.index-ports-at.result c.bytes.result.now c.has_special.result c.loop-at-test.true c.bytes.ensures c.has_special.ensures ∙ c.if-has_special.false)
    c.loop-at.invariant

pub returns-then-has_special-clause-value : goal.returns-then-has_special-clause-value
returns-then-has_special-clause-value c =
    let ports = c.args.ports.now in
    sym (found (is_special_at ports) (length ports) c.loop-at.at c.loop-at-test.true
    (special_here ports c.loop-at.at c.index-ports-at.result c.bytes.result.now c.has_special.result c.loop-at-test.true c.bytes.ensures c.has_special.ensures ∙ c.if-has_special.true)
    c.loop-at.invariant)

pub returns-clause-value : goal.returns-clause-value
returns-clause-value c =
    let ports = c.args.ports.now in
    sym (none_left (is_special_at ports) (length ports) c.loop-at.at c.loop-at-test.false c.loop-at.invariant)
