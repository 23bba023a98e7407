use Rattle.std.proofs.Common.{◌≡◌, ◌<◌, ◌+ℤ◌, ◌≤ℤ◌, pos, length, arith, ap, sym, subst}
use Rattle.std.proofs.lemmas.Int.{ints}
use Rattle.mintc_graph_walks.specs.Walks.{value_at}
use Rattle.mintc_slack.specs.declared.reduced_costs.ReducedCost.{ReducedCost}
use Rattle.mintc_slack.specs.Gaps.{IsInside}
use Rattle.mintc_slack.proofs.GapLaws.{far_is, made}
use Rattle.mintc_slack.proofs.RowLaws.{gap-read, row-home, row-left, row-on}
use Rattle.mintc_slack.proofs.nearest.is_row_least.Goals as goal
use Rattle.mintc_slack.proofs.nearest.is_row_least.Goals.{then-gap-node-via-then-gap-node, then-gap-node-via-else-gap-node+then-distance-home}

pub returns-then-gap-node : goal.returns-then-gap-node
returns-then-gap-node c =
    let gaps = c.args.rows.now.gaps.items in
    let firsts = c.args.rows.now.firsts.items in
    let distances = c.args.distances.now in
    let place = c.loop-place.place in
    let inv = c.loop-place.invariant in
    let g = c.index-gap.result.now in
    let below : place < length gaps = (let test = c.loop-place-test.true in omega arith) in
    let is = gap-read gaps place g below c.index-gap.ensures in
    elim c.then-gap-node.branch [
      | then-gap-node-via-then-gap-node w ↦
          row-left gaps firsts c.requires.rows distances c.args.home c.requires.inside c.requires.home c.args.node place inv.begun inv.before
          (λ e. let same = ap (λ (x : ReducedCost). x.from) is in let test = w.if-gap-node.true in omega arith)
      | then-gap-node-via-else-gap-node+then-distance-home w ↦
          let inside : IsInside (length distances) g = subst (IsInside (length distances)) (sym is) (c.requires.inside place (made 0 (pos 0) 0) below) in
          let from = c.requires.range g.from inside.from in
          let low = inside.low in
          let high = inside.high in
          let test = w.if-distance-home.true in
          let far : c.args.home ≤ℤ (value_at distances g.from +ℤ g.rest) = omega (arith, ints, far_is) in
          row-home gaps firsts c.requires.rows distances c.args.home c.requires.inside c.requires.home c.args.node place inv.begun inv.before
          (subst (λ (x : ReducedCost). c.args.home ≤ℤ (value_at distances x.from +ℤ x.rest)) is far)
    ]

pub loop-place-preserved : goal.loop-place-preserved
loop-place-preserved c =
    let gaps = c.args.rows.now.gaps.items in
    let firsts = c.args.rows.now.firsts.items in
    let distances = c.args.distances.now in
    let place = c.loop-place.place in
    let inv = c.loop-place.invariant in
    let g = c.index-gap.result.now in
    let below : place < length gaps = (let test = c.loop-place-test.true in omega arith) in
    let is = gap-read gaps place g below c.index-gap.ensures in
    let inside : IsInside (length distances) g = subst (IsInside (length distances)) (sym is) (c.requires.inside place (made 0 (pos 0) 0) below) in
    let from = c.requires.range g.from inside.from in
    let to = c.requires.range g.to inside.to in
    let low = inside.low in
    let high = inside.high in
    let test = c.if-distance-distances.false in
    let here : value_at distances g.to ≤ℤ (value_at distances g.from +ℤ g.rest) = omega (arith, ints, far_is) in
    record {
      begun = (let b = inv.begun in omega arith);
      before = row-on gaps firsts c.requires.rows distances c.args.home c.requires.inside c.requires.home c.args.node place inv.begun inv.before
          (subst (λ (x : ReducedCost). value_at distances x.to ≤ℤ (value_at distances x.from +ℤ x.rest)) is here);
    }
