use Rattle.std.proofs.Common.{arith, ◌≡◌, ◌+◌, ◌++◌, [], ◌<◌, ℕ, List, ◌∙◌, ap, subst, rules, length, get_or, drop}
use Rattle.std.proofs.lemmas.Grind.{common_steps}
use Rattle.mintc_netlist.specs.Nets.{names_of, range_of}
use Rattle.mintc_netlist_nets.specs.Tables.{bit_count, firsts_from}
use Rattle.mintc_netlist_nets.proofs.SharedTableLaws.{count_step, firsts_step, spans_step}
use Rattle.mintc_netlist_nets.proofs.nets.Nets.new.Goals as goal

pub loop-place-preserved : goal.loop-place-preserved
loop-place-preserved c =
    let m = c.args.module_nets.now in
    let k = c.loop-place.place in
    let names = names_of m in
    let inside : k < length names = subst (λ (ns : List (List ℕ)). k < length ns) c.in_ok-names.ensures (subst (λ (n : ℕ). k < n) c.len-place-end.ensures c.loop-place-test.true) in
    let at : c.name.result.now ≡ get_or names k [] = c.name.ensures ∙ ap (λ (ns : List (List ℕ)). get_or ns k []) c.in_ok-names.ensures in
    let width : c.bits-width.result ≡ bit_count (range_of m c.name.result.now) = c.bits-width.ensures.value ∙ ap bit_count c.range-span.ensures in
    let added : c.in-Some.next ≡ c.loop-place.count + c.bits-width.result = search rules in
    let more : c.in-Some.next ≡ c.loop-place.count + bit_count (range_of m c.name.result.now) = added ∙ ap (λ (n : ℕ). c.loop-place.count + n) width in (
      ap (λ (firsts : List ℕ). firsts ++ firsts_from m c.in-Some.next (drop (k + 1) names)) c.in_ok-push.ensures.items
          ∙ firsts_step m names k c.loop-place.count c.in-Some.next c.name.result.now c.loop-place.firsts.items (firsts_from m 0 names) inside at c.loop-place.invariant.0 more,
      count_step m names k c.loop-place.count c.in-Some.next c.name.result.now inside at c.loop-place.invariant.1 more,
      c.in_ok-push-2.ensures.items ∙ spans_step m names k c.name.result.now c.range-span.result c.loop-place.spans.items inside at c.loop-place.invariant.2 c.range-span.ensures,
    )

pub returns : goal.returns
returns c = grind (arith, common_steps)
