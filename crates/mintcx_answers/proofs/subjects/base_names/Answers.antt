use Rattle.std.proofs.Common.{refl, arith}
use Rattle.std.proofs.lemmas.Grind.{common_steps}
use Rattle.mintcx_answers.proofs.subjects.base_names.Goals as goal

pub loop-name-init : goal.loop-name-init
loop-name-init c = rw c.new-bases.ensures.items refl

pub loop-name-preserved : goal.loop-name-preserved
loop-name-preserved c = grind (arith, common_steps)

pub returns : goal.returns
returns c =
    let same = c.loop-name.invariant in
    let above = c.loop-name-test.false in
    let end = c.loop-name.auto.name-index-end in
    rw c.new-2.ensures (omega (arith, same, above, end))
