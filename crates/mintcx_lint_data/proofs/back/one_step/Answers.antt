use Rattle.std.proofs.Common.{◌-◌, drop, length, subst, sym, arith, List, ℕ, []}
use Rattle.std.proofs.lemmas.List.{drop_all}
use Rattle.mintc_flatten_hierarchy.specs.declared.hierarchy.Join.{Join}
use Rattle.mintcx_lint_data.specs.Back.{AreBack}
use Rattle.mintcx_lint_data.proofs.BackLaws.{back_more, no_joins}
use Rattle.mintcx_lint_data.proofs.back.one_step.Goals as goal

pub loop-at-init : goal.loop-at-init
loop-at-init c =
    let joins = c.args.joins.now in
    let bits = c.args.bits in
    let none = drop_all (length joins - 0) joins (omega arith) in
    subst (λ (js : List Join). AreBack js 1 bits c.in_ok-found.found.items) (sym none) (subst (λ (v : List ℕ). AreBack [] 1 bits v) (sym c.in_ok-found.ensures) (no_joins bits))

pub loop-at-preserved : goal.loop-at-preserved
loop-at-preserved c =
    back_more c.args.joins.now c.loop-at.at c.args.bits _ c.loop-at.found.items c.step_along.new.found.items c.loop-at-test.true c.loop-at.invariant c.step_along.ensures
