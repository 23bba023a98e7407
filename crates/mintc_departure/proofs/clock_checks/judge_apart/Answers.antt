use Rattle.std.proofs.Common.{◌≡◌, ◌+◌, ◌-◌, ◌*◌, ℕ, false, get_or, arith, ap, ◌∙◌}
use Rattle.mintc_timing.specs.declared.violation.Broken.TheVariants as broken
use Rattle.mintc_timing.specs.Limits.{IsPhase}
use Rattle.mintc_timing.specs.Violations.{check}
use Rattle.mintc_timing.proofs.SharedFitting.{read_time}
use Rattle.mintc_departure.proofs.FailedLaws.{turns}
use Rattle.mintc_departure.proofs.clock_checks.judge_apart.Goals as goal

pub loop-index-preserved : goal.loop-index-preserved
loop-index-preserved c =
    let i = c.args.i in
    let n = c.loop-index.index in
    let first : IsPhase 8 i = (omega arith, omega arith) in
    let second : IsPhase 8 (n + 1) = (omega arith, omega arith) in
    let place : n ≡ (n + 1) - 1 = omega arith in
    let asked = ap (λ (k : ℕ). get_or c.args.fed.now (8 * (i - 1) + k) false) place ∙ c.requires.table i (n + 1) first second in
    let amount = ap (check (broken.Apart i (n + 1))) (read_time c.apart_excess.result c.apart_excess.ensures.range ∙ c.apart_excess.ensures.value) in
    grind (arith, turns, asked, amount)
