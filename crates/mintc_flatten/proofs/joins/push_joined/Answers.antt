use Rattle.std.proofs.Common.{◌++◌, ℕ, List, sym, ap, subst, ◌<◌, ◌≤◌, ◌∙◌}
use Rattle.std.proofs.lemmas.List.{append-nil}
use Rattle.mintc_flatten_hierarchy.specs.declared.hierarchy.Join.{Join}
use Rattle.mintc_flatten.proofs.JoinLaws.{joined_turn, joined_end}
use Rattle.mintc_flatten.proofs.joins.push_joined.Goals as goal

pub loop-number-preserved : goal.loop-number-preserved
loop-number-preserved c =
    joined_turn c.args.from_first c.args.to_first c.args.froms.now c.args.tos.now c.loop-number.number c.loop-number.joins.items c.push_join.new.joins.items
    (subst (λ (n : ℕ). c.loop-number.number < n) c.min-count.ensures c.loop-number-test.true) c.in_ok-push_join.ensures
    ∙ c.loop-number.invariant

pub returns : goal.returns
returns c =
    sym (append-nil c.loop-number.joins.items)
    ∙ sym (ap (λ (js : List Join). c.loop-number.joins.items ++ js) (joined_end c.args.from_first c.args.to_first c.args.froms.now c.args.tos.now c.loop-number.number (subst (λ (n : ℕ). n ≤ c.loop-number.number) c.min-count.ensures c.loop-number-test.false)))
    ∙ c.loop-number.invariant
