use Rattle.std.proofs.Common.{◌≡◌, [], take, drop}
use Rattle.mintc_flatten_hierarchy.specs.Faults.{is_name_twice}
use Rattle.mintc_flatten_rules.specs.Firsts.{first_after}
use Rattle.mintc_flatten_rules.specs.Twice.{IsSeenBy}
use Rattle.mintc_flatten_rules.proofs.name_twice.Seen.first_again.Given as goal

-- the items so far are kept, and what is left has the first at fault
abbrev pub invariant-loop-item : goal.invariant-loop-item
invariant-loop-item l = record {
  seen : IsSeenBy l.self (take l.item-index l.items);
  left : first_after is_name_twice l.part (take l.item-index l.items) (drop l.item-index l.items) ≡ first_after is_name_twice l.part [] l.items;
}
