use Rattle.std.proofs.Common.{◌≡◌, ◌+◌, ◌++◌, ◌∷◌, [], take, List, sym, ap, subst, ◌∙◌}
use Rattle.std.proofs.lemmas.List.{take_more}
use Rattle.mintc_netlist.specs.declared.module.Item.{Item}
use Rattle.mintc_flatten_hierarchy.specs.Faults.{is_name_twice}
use Rattle.mintc_flatten_rules.specs.Firsts.{first_after}
use Rattle.mintc_flatten_rules.specs.Twice.{IsSeenBy}
use Rattle.mintc_flatten_rules.proofs.TwiceLaws.{item_passed, item_found}
use Rattle.mintc_flatten_rules.proofs.name_twice.Seen.first_again.Goals as goal

pub loop-item-preserved : goal.loop-item-preserved
loop-item-preserved c =
    let is = c.items-items.result.now in
    let n = c.loop-item.item-index in
    let x = c.item-item.result in
    let front : take (n + 1) is ≡ take n is ++ x ∷ [] = take_more is n x c.loop-item-test.true ∙ ap (λ (y : Item). take n is ++ y ∷ []) (sym c.item-item.is) in
    record {
      seen = subst (λ (l : List Item). IsSeenBy c.again.new.self l) (sym front) (c.in_ok-again.ensures.seen (take n is) c.loop-item.invariant.seen c.if-branch.false);
      left = item_passed c.args.part.now is n x c.in_ok-again.field-0 c.loop-item-test.true c.item-item.is (c.in_ok-again.ensures.again (take n is) c.loop-item.invariant.seen) c.if-branch.false c.loop-item.invariant.left;
    }

pub returns-then-branch : goal.returns-then-branch
returns-then-branch c =
    let is = c.items-items.result.now in
    let n = c.loop-item.item-index in
    item_found c.args.part.now is n c.item-item.result c.in_ok-again.field-0 c.entry.result c.loop-item-test.true c.item-item.is (c.in_ok-again.ensures.again (take n is) c.loop-item.invariant.seen) c.if-branch.true
    c.entry.ensures c.loop-item.invariant.left
    ∙ ap (first_after is_name_twice c.args.part.now []) c.items-items.ensures
