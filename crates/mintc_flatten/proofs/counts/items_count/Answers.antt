use Rattle.std.proofs.Common.{List, take, get_or, subst, sym, arith}
use Rattle.std.proofs.lemmas.List.{take_more}
use Rattle.mintc_flatten_hierarchy.specs.declared.bindings.Binding.{Binding}
use Rattle.mintc_flatten_hierarchy.specs.declared.bindings.Binding.TheVariants.{OfCell}
use Rattle.mintc_flatten_hierarchy.specs.Sources.{source_of}
use Rattle.mintc_flatten_hierarchy.specs.Walks.{counts, plus}
use Rattle.mintc_flatten.specs.Totals.{sum_parts, IsCapped, greatest_depth}
use Rattle.mintc_flatten.proofs.CountLaws.{count_step}
use Rattle.mintc_flatten.proofs.counts.items_count.Goals as goal

pub loop-binding-preserved : goal.loop-binding-preserved
loop-binding-preserved c =
    let s = source_of c.args.cells.now c.args.modules.now in
    let ts = c.args.bindings.now in
    let i = c.loop-binding.binding-index in
    let t = get_or ts i (OfCell 0) in
    let a = c.with_part-count.ensures.scopes in
    let b = c.with_part-count.ensures.leaves in
    let d = c.with_part-count.ensures.inner in
    record {
      scopes = omega (arith, a);
      leaves = omega (arith, b);
      inner = omega (arith, d);
      sums = λ own e.
          subst (λ (front : List Binding). IsCapped (plus (counts 1 0 own) (sum_parts s front)) (greatest_depth s front) c.with_part-count.result) (sym (take_more ts i (OfCell 0) c.loop-binding-test.true))
          (count_step s own (take i ts) t c.loop-binding.count c.part.result c.with_part-count.result (c.loop-binding.invariant.sums own e) c.part.ensures a b d c.with_part-count.ensures.depth);
    }
