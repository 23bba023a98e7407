use Rattle.std.proofs.Common.{◌≡◌, pos, arith, lit<, ◌∙◌}
use Rattle.std.specs.Int.{w64, w128}
use Rattle.std.proofs.lemmas.Int.{ints, to_z-of_z}
use Rattle.mintc_graph_walks.specs.Bounds.{IsWithin}
use Rattle.mintc_fraction.specs.Ratio.{over}
use Rattle.mintc_ratio.proofs.Weights.{fits_64, fits_128}
use Rattle.mintc_ratio.proofs.CycleLaws.{IsCycle-reduced, IsOfNodes-reduced}
use Rattle.mintc_ratio.proofs.sums.ratio_of.Goals as goal

pub returns-clause-cycle : goal.returns-clause-cycle
returns-clause-cycle c =
    let d = c.args.sums.delay in
    let n = c.args.sums.cycles in
    let low = c.requires.low in let high = c.requires.high in let few = c.requires.cycles in
    let delay : IsWithin 40034000000000 d = (omega (arith, ints), omega (arith, ints)) in
    let cycles : IsWithin 20017 (pos n) = (omega (arith, ints), omega (arith, ints)) in
    let is : c.new.result ≡ over d (pos n) = c.new.ensures ∙ rw (
      c.from.ensures,
      c.from-2.ensures,
      to_z-of_z w64 d (fits_64 40034000000000 d (lit< tt) delay),
      to_z-of_z w128 d (fits_128 40034000000000 d (lit< tt) delay),
      to_z-of_z w128 (pos n) (fits_128 20017 (pos n) (lit< tt) cycles),
    ) in
    let e = rw is at c.reduced.ensures.value in
    let b = rw is at c.reduced.ensures.bounds in
    IsCycle-reduced c.reduced.result d n c.requires.turns few low high e c.reduced.ensures.lowest c.reduced.ensures.positive b

pub returns-clause-small : goal.returns-clause-small
returns-clause-small c = λ nodes fits most.
    let d = c.args.sums.delay in
    let n = c.args.sums.cycles in
    let low = c.requires.low in let high = c.requires.high in let few = c.requires.cycles in
    let delay : IsWithin 40034000000000 d = (omega (arith, ints), omega (arith, ints)) in
    let cycles : IsWithin 20017 (pos n) = (omega (arith, ints), omega (arith, ints)) in
    let is : c.new.result ≡ over d (pos n) = c.new.ensures ∙ rw (
      c.from.ensures,
      c.from-2.ensures,
      to_z-of_z w64 d (fits_64 40034000000000 d (lit< tt) delay),
      to_z-of_z w128 d (fits_128 40034000000000 d (lit< tt) delay),
      to_z-of_z w128 (pos n) (fits_128 20017 (pos n) (lit< tt) cycles),
    ) in
    let b = rw is at c.reduced.ensures.bounds in
    IsOfNodes-reduced c.reduced.result d n nodes fits low most b
