use Rattle.std.proofs.Common.{◌≡◌, ◌<◌, [], length, get_or, subst, arith}
use Rattle.std.proofs.lemmas.Grind.{common_steps}
use Rattle.std.proofs.lemmas.Result.{err_from_is_err_and}
use Rattle.mintcx_clock_cells.specs.Clocks.{IsFit}
use Rattle.mintcx_clock_cells.proofs.FitLaws.{fit-more, first-unfit}
use Rattle.mintcx_clock_cells.proofs.choosing.check_gates.Goals as goal

pub returns-in_err-check_gate-clause-unfit : goal.returns-in_err-check_gate-clause-unfit
returns-in_err-check_gate-clause-unfit c =
    let within : c.loop-at.at < length c.args.gates.now = omega arith in
    let name : c.bytes.result.now ≡ get_or c.args.gates.now c.loop-at.at [] = grind (arith, common_steps, c.bytes.ensures, c.index-gates-at.is) in
    let p = err_from_is_err_and c.from_residual.result c.from_residual.ensures.1 in
    rw (p.1, p.2) (first-unfit c.args.senses.now c.args.cells.now c.args.gates.now c.loop-at.at within c.loop-at.invariant c.bytes.result.now _ name c.in_err-check_gate.ensures.unfit)

pub loop-at-preserved : goal.loop-at-preserved
loop-at-preserved c =
    let within : c.loop-at.at < length c.args.gates.now = omega arith in
    let name : c.bytes.result.now ≡ get_or c.args.gates.now c.loop-at.at [] = grind (arith, common_steps, c.bytes.ensures, c.index-gates-at.is) in
    fit-more c.args.senses.now c.args.cells.now c.args.gates.now c.loop-at.at within c.loop-at.invariant (subst (IsFit c.args.senses.now c.args.cells.now) name c.in_ok-check_gate.ensures.fit)
