use Rattle.std.proofs.Common.{◌≡◌, ◌<◌, ℕ, pos, length, arith, ap, ◌∙◌, sym, subst}
use Rattle.std.proofs.lemmas.Int.{ints}
use Rattle.std.proofs.lemmas.Grind.{common_steps}
use Rattle.std.proofs.lemmas.List.{get_or_default}
use Rattle.mintc_graph_walks.specs.Walks.{value_at}
use Rattle.mintc_slack.specs.Gaps.{IsInside}
use Rattle.mintc_slack.proofs.GapLaws.{far_is, shorter-on}
use Rattle.mintc_slack.proofs.RowLaws.{gap-inside}
use Rattle.mintc_slack.proofs.SizeLaws.{read_narrow}
use Rattle.mintc_slack.proofs.nearest.leave.Goals as goal

pub index-requires : goal.index-requires
index-requires c =
    let gaps = c.args.rows.now.gaps.items in
    let below : c.loop-place.place < length gaps = (let test = c.loop-place-test.true in omega arith) in
    let inside = gap-inside (length c.args.distances.now.items) gaps c.loop-place.place c.index-gap.result.now c.requires.inside below c.index-gap.ensures in
    let from = inside.from in
    let count = (c.loop-place.invariant 0).count in
    grind (arith, common_steps, from, count)

pub sum-requires-clause-x : goal.sum-requires-clause-x
sum-requires-clause-x c =
    let gaps = c.args.rows.now.gaps.items in
    let now = c.loop-place.distances.items in
    let g = c.index-gap.result.now in
    let below : c.loop-place.place < length gaps = (let test = c.loop-place-test.true in omega arith) in
    let inside = gap-inside (length c.args.distances.now.items) gaps c.loop-place.place g c.requires.inside below c.index-gap.ensures in
    let shorter = c.loop-place.invariant 0 in
    let there : g.from < length now = (let from = inside.from in let count = shorter.count in omega arith) in
    let range = shorter.range g.from there in
    let far = far_is in
    let from_is : c.index.result.now ≡ value_at now g.from = c.index.ensures ∙ get_or_default now g.from c.index.result.now (pos 0) there in
    let read = read_narrow c.index.result.now (omega (arith, ints), omega (arith, ints)) in
    (omega (arith, ints), omega (arith, ints))

pub pass-requires-clause-inside : goal.pass-requires-clause-inside
pass-requires-clause-inside c =
    let gaps = c.args.rows.now.gaps.items in
    let below : c.loop-place.place < length gaps = (let test = c.loop-place-test.true in omega arith) in
    let inside = gap-inside (length c.args.distances.now.items) gaps c.loop-place.place c.index-gap.result.now c.requires.inside below c.index-gap.ensures in
    subst (λ (n : ℕ). IsInside n c.index-gap.result.now) (sym (c.loop-place.invariant 0).count) inside

pub pass-requires-clause-range : goal.pass-requires-clause-range
pass-requires-clause-range c = (c.loop-place.invariant 0).range

pub returns-in_err-pass : goal.returns-in_err-pass
returns-in_err-pass c hub =
    let below : c.loop-place.place < length c.args.rows.now.gaps.items = (let test = c.loop-place-test.true in omega arith) in
    shorter-on hub c.args.rows.now.gaps.items _ _ _ (c.loop-place.invariant hub) (c.pass.ensures hub c.args.rows.now.gaps.items (c.loop-place.place, below, sym c.index-gap.ensures))

pub loop-place-preserved : goal.loop-place-preserved
loop-place-preserved c hub =
    let below : c.loop-place.place < length c.args.rows.now.gaps.items = (let test = c.loop-place-test.true in omega arith) in
    shorter-on hub c.args.rows.now.gaps.items _ _ _ (c.loop-place.invariant hub) (c.pass.ensures hub c.args.rows.now.gaps.items (c.loop-place.place, below, sym c.index-gap.ensures))
