use Rattle.std.proofs.Common.{◌≤◌, ◌++◌, ℕ, List, Option, Some, map, length, sym, ap, ◌∙◌, subst}
use Rattle.std.proofs.lemmas.List.{take_all}
use Rattle.std.proofs.lemmas.Simd.{map-map}
use Rattle.mintc_netlist.specs.declared.expression.Span.{Span}
use Rattle.mintc_netlist.specs.Nets.{bit_of, bits_of, indexes}
use Rattle.mintc_flatten_hierarchy.specs.declared.hierarchy.Inner.{Inner}
use Rattle.mintc_flatten_hierarchy.specs.Hierarchies.{net_of}
use Rattle.mintc_flatten.proofs.walk.push_net.Goals as goal

pub returns : goal.returns
returns c =
    let name = c.args.name.now in
    let is = indexes c.in-Some.span in
    let past : length is ≤ c.loop-number.number = subst (λ (n : ℕ). n ≤ c.loop-number.number) c.bits-number-end.ensures.value c.loop-number-test.false in
    c.loop-number.invariant
    ∙ ap (λ (xs : List ℕ). c.args.inner.now.items ++ map (λ i. net_of c.args.scope (bit_of name (Some i))) xs) (take_all c.loop-number.number is past)
    ∙ ap (λ (xs : List Inner). c.args.inner.now.items ++ xs) (sym (map-map (net_of c.args.scope) (λ i. bit_of name (Some i)) is))
    ∙ ap (λ (span : Option Span). c.args.inner.now.items ++ map (net_of c.args.scope) (bits_of name span)) (sym c.in-Some.is)
