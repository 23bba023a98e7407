use Rattle.std.proofs.Common.{◌≡◌, List, length, arith, refl, ap}
use Rattle.std.specs.Vec.{with_items}
use Rattle.std.proofs.lemmas.List.{with_items_is}
use Rattle.mintc_timing.specs.declared.parts.Pair.{Pair}
use Rattle.mintc_paths.specs.Sums.{AreRows}
use Rattle.mintc_paths.proofs.SharedReversedPairs.{IsFoundBefore-back, IsFoundBefore-many}
use Rattle.mintc_paths.proofs.back.find_backward.Goals as goal
use Rattle.mintc_paths.proofs.back.find_backward.Goals.{In_ok-places}

-- there is a place for each element
rows_are : (c : In_ok-places) → AreRows (length c.args.flat.now.elements) c.in_ok-places.places
rows_are c = rw c.element_count-elements.ensures.value at c.in_ok-places.ensures

pub returns-then-found-most-clause-found : goal.returns-then-found-most-clause-found
returns-then-found-most-clause-found c =
    let rows = rows_are (goal.at.returns-then-found-most-clause-found c).In_ok-places in
    IsFoundBefore-many c.args.flat.now c.element_count-elements.ensures.kept c.in_ok-places.places.of_bits.items c.in_ok-places.places.bits.items rows.of_bits rows.bits c.in_ok-found.found c.in_ok-found.ensures.found (omega (arith, c.in_ok-found.ensures.most, c.if-found-most.true))

pub returns-clause-found : goal.returns-clause-found
returns-clause-found c =
    let rows = rows_are (goal.at.returns-clause-found c).In_ok-places in
    let found = c.in_ok-found.found in
    let pairs = c.reverse_pairs.new.pairs in
    let was = c.deref_mut.ensures.value in
    let same_was = ap (λ (ps : List Pair). length ps) was in
    let is : (with_items found.pairs pairs).items ≡ pairs = with_items_is found.pairs pairs (omega (arith, found.pairs.ok.0, c.reverse_pairs.auto.pairs)) in
    IsFoundBefore-back c.args.flat.now c.element_count-elements.ensures.kept c.in_ok-places.places.of_bits.items c.in_ok-places.places.bits.items rows.of_bits rows.bits found c.in_ok-found.ensures.found (omega (arith, c.in_ok-found.ensures.most, c.if-found-most.false)) pairs
    (rw was at c.reverse_pairs.ensures.permutation) c.reverse_pairs.ensures.sorted
    (record { pairs = with_items found.pairs pairs; count = found.count; most = found.most; ends = found.ends }) refl is
