use Rattle.std.proofs.lemmas.Grind.{common_steps}
use Rattle.std.proofs.Common.{◌≡◌, ◌-◌, ◌++◌, ◌∷◌, ◌≤◌, [], take, length, length-append, sym, ap, ◌∙◌, arith, subst, append_assoc}
use Rattle.std.proofs.lemmas.Bool.Decides.{nat_tests}
use Rattle.mintc_annotate_resolve.specs.Resolution.{leaf_called, at_pin, of_interconnect}
use Rattle.mintc_annotate_resolve.specs.Targets.{IsResolved}
use Rattle.mintc_annotate_resolve.proofs.SharedPathLaws.{Path, last_split, one_name}
use Rattle.mintc_annotate_resolve.proofs.SharedResolutionLaws.{leaf_there, of_snoc}
use Rattle.mintc_annotate_resolve.proofs.resolving.Lookup.to_end_below.Goals as goal

pub to_pin-requires-clause-leaf : goal.to_pin-requires-clause-leaf
to_pin-requires-clause-leaf c = leaf_there c.args.self.now.hierarchy.now c.args.path.now c.args.instance.leaf c.requires.instance.leaf

pub returns-then-last-eq0 : goal.returns-then-last-eq0
returns-then-last-eq0 c =
    let h = c.args.self.now.hierarchy.now in
    let cells = c.args.self.now.cells.now in
    let path = c.args.path.now in
    let to = c.args.to.now in
    let name = c.bytes.result.now in
    let some : 1 ≤ length path = grind (arith, nat_tests) in
    let some_to : 1 ≤ length to = grind (arith, nat_tests) in
    let whole : name ∷ [] ≡ to = one_name to name c.index-to-0.result some_to c.if-last-eq0.true c.index-to-0.is c.bytes.ensures in
    let right : at_pin h cells c.args.instance.leaf name ≡ of_interconnect h cells (path ++ to) =
    ap (λ o. at_pin h cells o name) c.requires.instance.leaf ∙ sym (of_snoc h cells path name some) ∙ ap (λ (p : Path). of_interconnect h cells (path ++ p)) whole in
    subst (IsResolved h c.to_pin.result) right c.to_pin.ensures

pub to_pin-requires-2-clause-leaf : goal.to_pin-requires-2-clause-leaf
to_pin-requires-2-clause-leaf c =
    let h = c.args.self.now.hierarchy.now in
    let to = c.args.to.now in
    leaf_there h (c.args.path.now ++ take (length to - 1) to) c.in_ok-leaf.leaf (c.in_ok-leaf.ensures h c.args.path.now c.requires.lookup.named c.requires.lookup.index c.requires.instance.scope)

pub returns : goal.returns
returns c =
    let h = c.args.self.now.hierarchy.now in
    let cells = c.args.self.now.cells.now in
    let path = c.args.path.now in
    let to = c.args.to.now in
    let name = c.bytes-2.result.now in
    let some : 1 ≤ length path = grind (arith, nat_tests) in
    let some_to : 1 ≤ length to = grind (arith, nat_tests) in
    let front : Path = take (length to - 1) to in
    let whole : front ++ name ∷ [] ≡ to = last_split to name c.index-to-last.result some_to c.index-to-last.is c.bytes-2.ensures in
    let leaf : c.in_ok-leaf.leaf ≡ leaf_called h (path ++ front) = c.in_ok-leaf.ensures h path c.requires.lookup.named c.requires.lookup.index c.requires.instance.scope in
    let right : at_pin h cells c.in_ok-leaf.leaf name ≡ of_interconnect h cells (path ++ to) =
    ap (λ o. at_pin h cells o name) leaf ∙ sym (of_snoc h cells (path ++ front) name (omega (arith, some, length-append path front)))
    ∙ ap (of_interconnect h cells) (append_assoc path front (name ∷ []) ∙ ap (λ (p : Path). path ++ p) whole) in
    subst (IsResolved h c.to_pin-2.result) right c.to_pin-2.ensures

pub returns-then-is_empty : goal.returns-then-is_empty
returns-then-is_empty c = grind (arith, common_steps)

pub returns-then-is_empty-2 : goal.returns-then-is_empty-2
returns-then-is_empty-2 c = grind (arith, common_steps)
