use Rattle.std.proofs.lemmas.Grind.{common_steps}
use Rattle.std.proofs.Common.{◌≡◌, ◌<◌, ◌+◌, ℕ, List, length, get_or, subst, sym, ap, ◌∙◌, arith}
use Rattle.std.specs.List.{All}
use Rattle.std.proofs.lemmas.List.{get_or-map, length-set}
use Rattle.mintc_netlist.specs.Nets.{nets_of}
use Rattle.mintc_flatten_hierarchy.specs.declared.bindings.Binding.{Binding}
use Rattle.mintc_flatten.specs.declared.counts.Count.{Count}
use Rattle.mintc_flatten_hierarchy.specs.Sources.{source_of, module_at, no_module, bindings_in}
use Rattle.mintc_flatten_hierarchy.specs.Walks.{counts, plus}
use Rattle.mintc_flatten.specs.Totals.{IsCounted, IsCapped, IsCount, sum_parts, greatest_depth, net_count, capped}
use Rattle.mintc_flatten.proofs.CountLaws.{counted_bindings, greatest_depth-le, module_counted, counted_step}
use Rattle.mintc_flatten_binding.proofs.SharedThereLaws.{kept_at}
use Rattle.mintc_flatten.proofs.counts.count_modules.Goals as goal

pub module_count-requires-clause-counted : goal.module_count-requires-clause-counted
module_count-requires-clause-counted c =
    let s = source_of c.args.cells.now c.args.modules.now in
    let i = c.loop-number.number-index in
    let k = get_or c.args.order.now i 0 in
    let number : k < length c.args.modules.now = c.requires.order.number i c.loop-number-test.true in
    let is : c.items.result.now ≡ bindings_in s (module_at s k) = c.items.ensures ∙ kept_at s (bindings_in s) c.args.bindings.now k c.index-bindings-at.result c.requires.bindings number c.index-bindings-at.is in
    let all = counted_bindings s c.args.order.now i c.loop-number.table.items c.requires.order c.loop-number-test.true c.loop-number.invariant.counted c.loop-number.invariant.length in
    let P : List Count → List Binding → Type 0 = λ table ts. All (IsCounted s table) ts in
    subst (λ (table : List Count). P table c.items.result.now) (sym c.deref.ensures.value) (subst (P c.loop-number.table.items) (sym is) all)

pub module_count-requires-clause-shallow : goal.module_count-requires-clause-shallow
module_count-requires-clause-shallow c =
    let s = source_of c.args.cells.now c.args.modules.now in
    let most = greatest_depth-le s c.items.result.now in
    let few = c.requires.few in
    omega (arith, most, few)

pub loop-number-preserved : goal.loop-number-preserved
loop-number-preserved c =
    let s = source_of c.args.cells.now c.args.modules.now in
    let i = c.loop-number.number-index in
    let k = get_or c.args.order.now i 0 in
    let number : k < length c.args.modules.now = c.requires.order.number i c.loop-number-test.true in
    let size = c.loop-number.invariant.length in
    let within : k < length c.loop-number.table.items = omega arith in
    let is : c.items.result.now ≡ bindings_in s (module_at s k) = c.items.ensures ∙ kept_at s (bindings_in s) c.args.bindings.now k c.index-bindings-at.result c.requires.bindings number c.index-bindings-at.is in
    let bits : get_or c.args.bits.now k 0 ≡ capped (length (nets_of (module_at s k))) = ap (λ (bs : List ℕ). get_or bs k 0) c.requires.bits ∙ get_or-map net_count c.args.modules.now k no_module 0 number in
    let counted = c.module_count.ensures (length (nets_of (module_at s k))) bits in
    let P : List Binding → Type 0 = λ ts. IsCapped (plus (counts 1 0 (length (nets_of (module_at s k)))) (sum_parts s ts)) (greatest_depth s ts + 1) c.module_count.result in
    let one : IsCount s k c.module_count.result = module_counted s c.args.order.now i c.module_count.result c.requires.order c.loop-number-test.true (subst P is counted) in
    record {
      length = length-set c.loop-number.table.items k c.module_count.result ∙ size;
      counted = counted_step s c.args.order.now i c.loop-number.table.items c.module_count.result within c.loop-number.invariant.counted one;
    }

pub bounds-bindings-at : goal.bounds-bindings-at
bounds-bindings-at c = grind (arith, common_steps)

pub bounds-bits-at : goal.bounds-bits-at
bounds-bits-at c = grind (arith, common_steps)

pub module_count-requires-clause-bits : goal.module_count-requires-clause-bits
module_count-requires-clause-bits c = grind (arith, common_steps)
