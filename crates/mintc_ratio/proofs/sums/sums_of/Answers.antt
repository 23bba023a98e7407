use Rattle.std.proofs.Common.{◌≡◌, ◌<◌, ◌+ℤ◌, get_or, arith, lit<, to_z, of_z, w64, SFits}
use Rattle.std.proofs.lemmas.Int.{to_z-of_z}
use Rattle.mintc_constraints.specs.Ordinary.{IsOrdinaryLink}
use Rattle.mintc_timing.specs.Links.{link_at}
use Rattle.mintc_ratio.proofs.Weights.{fits_64}
use Rattle.mintc_ratio.proofs.Weighing.{delay-within}
use Rattle.mintc_ratio.proofs.SharedSumsLaws.{ordinary-at, few_links, summed-more, sum-fits, small-summed}
use Rattle.mintc_ratio.proofs.sums.sums_of.Goals as goal

-- the link of a turn is ordinary, and there are few turns
turn : (c : goal.After-delay-1) → IsOrdinaryLink c.args.nodes (link_at c.args.links.now (get_or c.args.chain.now c.loop-number.number-index 0)) × (c.loop-number.number-index < 20017)
turn c =
    let few = few_links c.args.nodes c.args.links.now c.requires.ordinary c.args.chain.now c.requires.chain in
    let most = c.requires.ordinary.nodes.1 in (
      ordinary-at c.args.nodes c.args.links.now c.requires.ordinary (get_or c.args.chain.now c.loop-number.number-index 0) (c.requires.chain.exist c.loop-number.number-index 0 c.loop-number-test.true),
      omega arith,
    )

-- what the code adds
read : (c : goal.After-delay-1) → to_z w64 (of_z w64 c.nth_link-link.result.now.delay) ≡ (link_at c.args.links.now (get_or c.args.chain.now c.loop-number.number-index 0)).delay
read c =
    let k = link_at c.args.links.now (get_or c.args.chain.now c.loop-number.number-index 0) in
    rw c.nth_link-link.ensures (to_z-of_z w64 k.delay (fits_64 4000000000 k.delay (lit< tt) (delay-within c.args.nodes k (turn c).0)))

fits : (c : goal.After-delay-1) → SFits w64 (to_z w64 c.loop-number.delay-bits +ℤ (link_at c.args.links.now (get_or c.args.chain.now c.loop-number.number-index 0)).delay)
fits c =
    let k = link_at c.args.links.now (get_or c.args.chain.now c.loop-number.number-index 0) in
    sum-fits c.loop-number.number-index _ k.delay (turn c).1 c.loop-number.invariant.within (delay-within c.args.nodes k (turn c).0)

pub overflow_add-delay : goal.overflow_add-delay
overflow_add-delay c = rw (read c) (fits c)

pub overflow_add-cycles : goal.overflow_add-cycles
overflow_add-cycles c =
    let one = (turn c).0.cycles in
    let lt = (turn c).1 in
    let few = c.loop-number.invariant.few in
    rw c.nth_link-link.ensures (omega arith)

pub loop-number-preserved : goal.loop-number-preserved
loop-number-preserved c =
    let k = link_at c.args.links.now (get_or c.args.chain.now c.loop-number.number-index 0) in
    rw (read c, to_z-of_z w64 (to_z w64 c.loop-number.delay-bits +ℤ k.delay) (fits c), c.nth_link-link.ensures)
    (summed-more c.args.nodes c.args.links.now c.args.chain.now c.loop-number.number-index _ _ c.loop-number-test.true (turn c).0 c.loop-number.invariant)

pub returns-clause-small : goal.returns-clause-small
returns-clause-small c =
    small-summed c.args.nodes c.args.links.now c.requires.ordinary c.args.chain.now c.requires.chain c.loop-number.number-index _ _ c.loop-number.auto.number-index-end c.loop-number.invariant
