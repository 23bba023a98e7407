use Rattle.std.proofs.Common.{◌≤◌, Bool, true, false, length, ap, arith}
use Rattle.std.specs.Bool.{OnTrue}
use Rattle.mintc_text.specs.declared.limits.Most.{Most}
use Rattle.mintc_paths_count.specs.Bound.{most_pairs}
use Rattle.mintc_paths_count.proofs.Bounding.{has_few}
use Rattle.mintc_paths_count.proofs.bound.are_plainly_few.Goals as goal

pub returns-clause-few : goal.returns-clause-few
returns-clause-few c =
    let limit = ap (λ (m : Most). m.pairs) c.most.ensures.value in
    let few : most_pairs (length c.args.flat.now.elements) c.args.flat.now.arcs ≤ c.args.limits.now.pairs = omega (arith, c.if-most-most_pairs.false, c.most_pairs.ensures.value, limit) in
    always c.in_ok-short.short (has_few c.args.flat.now c.most_pairs.ensures.design c.args.order.now c.requires c.args.limits.now few)
  where
    always : (b : Bool) {P : Type 0} → P → OnTrue b P
    always true p = p
    always false p = tt
