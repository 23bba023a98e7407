use Rattle.std.proofs.Common.{◌<◌, ◌+◌, ℕ, List, length, All, sym, ap, ◌∙◌, subst, arith}
use Rattle.mintcx_lint_data.specs.Back.{AreBack, twice_as_far}
use Rattle.mintcx_lint_data.proofs.BackLaws.{doubled}
use Rattle.mintcx_lint_data.proofs.back.sources.Goals as goal

pub loop-steps-init : goal.loop-steps-init
loop-steps-init c = record { some = omega arith; back = c.in_ok-found.ensures }

pub twice_as_far-requires : goal.twice_as_far-requires
twice_as_far-requires c =
    let are = c.loop-steps.invariant.back in
    subst (λ (v : List ℕ). All (λ b. b < length v) v) (sym c.deref.ensures.value) (subst (λ (n : ℕ). All (λ b. b < n) c.loop-steps.found.items) (sym are.count) are.within)

pub loop-steps-preserved : goal.loop-steps-preserved
loop-steps-preserved c =
    let are = doubled c.args.joins.now c.loop-steps.steps c.args.bits c.loop-steps.found.items c.loop-steps.invariant.back in
    record {
      some = omega (arith, c.loop-steps.invariant.some);
      back = subst (λ (v : List ℕ). AreBack c.args.joins.now (c.loop-steps.steps + c.loop-steps.steps) c.args.bits v) (sym (c.in_ok-twice_as_far.ensures ∙ ap twice_as_far c.deref.ensures.value)) are;
    }

pub returns : goal.returns
returns c = (c.loop-steps.steps, omega (arith, c.loop-steps-test.false), c.loop-steps.invariant.back)
