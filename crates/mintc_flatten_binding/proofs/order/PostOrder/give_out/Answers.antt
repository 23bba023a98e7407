use Rattle.std.proofs.Common.{◌≡◌, ◌+◌, ℕ, List, set, length, sym, subst, ap, arith}
use Rattle.std.proofs.lemmas.List.{length_push}
use Rattle.mintc_flatten_hierarchy.specs.Sources.{source_of}
use Rattle.mintc_flatten_binding.specs.PostOrder.{IsOrdering}
use Rattle.mintc_flatten_binding.proofs.SharedOrderingLaws.{given_out}
use Rattle.mintc_flatten_binding.proofs.order.PostOrder.give_out.Goals as goal

pub returns : goal.returns
returns c =
    let s = source_of c.args.cells.now c.args.modules.now in
    let long = length_push c.args.self.now.order.items c.args.number in
    let same = ap (λ (l : List ℕ). length l) c.in_ok-push.ensures.items in
    let place : c.in_ok-place.place ≡ length c.args.self.now.order.items + 1 = omega (arith, c.in_ok-place.ensures, c.len.ensures) in
    subst (λ (order : List ℕ). IsOrdering s order (set c.args.self.now.places.items c.args.number c.in_ok-place.place) c.args.self.now.nexts.items) (sym c.in_ok-push.ensures.items)
    (given_out s c.args.self.now.order.items c.args.self.now.places.items c.args.self.now.nexts.items c.args.number c.in_ok-place.place c.requires.ordering c.requires.number c.requires.fresh c.requires.passed place)
