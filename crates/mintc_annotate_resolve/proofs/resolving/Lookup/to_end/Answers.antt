use Rattle.std.proofs.Common.{◌≡◌, ◌-◌, ◌++◌, ◌∷◌, ◌≤◌, [], take, length, length-append, sym, ap, ◌∙◌, arith, subst}
use Rattle.std.proofs.lemmas.Bool.Decides.{nat_tests}
use Rattle.mintc_annotate_resolve.specs.Resolution.{leaf_called, at_pin, of_interconnect}
use Rattle.mintc_annotate_resolve.specs.Targets.{IsResolved}
use Rattle.mintc_annotate_resolve.proofs.SharedPathLaws.{Path, last_split}
use Rattle.mintc_annotate_resolve.proofs.SharedInstanceLaws.{top_called}
use Rattle.mintc_annotate_resolve.proofs.SharedResolutionLaws.{leaf_there, of_snoc}
use Rattle.mintc_annotate_resolve.proofs.resolving.Lookup.to_end.Goals as goal

pub to_pin-requires-clause-leaf : goal.to_pin-requires-clause-leaf
to_pin-requires-clause-leaf c =
    let h = c.args.self.now.hierarchy.now in
    let path = c.args.path.now in
    leaf_there h (take (length path - 1) path) c.in_ok-leaf.leaf (c.in_ok-leaf.ensures h [] c.requires.named c.requires.index (sym (top_called h c.requires.shape.some_scope)))

pub returns : goal.returns
returns c =
    let h = c.args.self.now.hierarchy.now in
    let cells = c.args.self.now.cells.now in
    let path = c.args.path.now in
    let some : 1 ≤ length path = grind (arith, nat_tests) in
    let more : 1 ≤ length path - 1 = omega (arith, c.if-last-eq0.false) in
    let front : Path = take (length path - 1) path in
    let whole : front ++ c.bytes-2.result.now ∷ [] ≡ path = last_split path c.bytes-2.result.now c.index-path-last.result some c.index-path-last.is c.bytes-2.ensures in
    let leaf : c.in_ok-leaf.leaf ≡ leaf_called h front = c.in_ok-leaf.ensures h [] c.requires.named c.requires.index (sym (top_called h c.requires.shape.some_scope)) in
    let right : at_pin h cells c.in_ok-leaf.leaf c.bytes-2.result.now ≡ of_interconnect h cells path =
    ap (λ o. at_pin h cells o c.bytes-2.result.now) leaf ∙ sym (of_snoc h cells front c.bytes-2.result.now (omega (arith, more, ap length whole, length-append front (c.bytes-2.result.now ∷ [])))) ∙ ap (of_interconnect h cells) whole in
    subst (IsResolved h c.to_pin.result) right c.to_pin.ensures
