use Rattle.std.proofs.Common.{◌≡◌, ◌+ℤ◌, pos, arith, ◌∙◌}
use Rattle.std.proofs.lemmas.Int.{ints}
use Rattle.std.proofs.lemmas.List.{get_or_default}
use Rattle.mintc_graph_walks.specs.Walks.{value_at}
use Rattle.mintc_slack.proofs.GapLaws.{far_is, shorter-by}
use Rattle.mintc_slack.proofs.SizeLaws.{read_narrow}
use Rattle.mintc_slack.proofs.nearest.shorten.Goals as goal

pub returns-then-distance-index-clause-shorter : goal.returns-then-distance-index-clause-shorter
returns-then-distance-index-clause-shorter c hub gaps within =
    let g = c.args.gap in
    let old = c.args.distances.now.items in
    let inside = c.requires.inside in
    let from = c.requires.range g.from inside.from in
    let to = c.requires.range g.to inside.to in
    let far = far_is in
    let from_is : c.index.result.now ≡ value_at old g.from = c.index.ensures ∙ get_or_default old g.from c.index.result.now (pos 0) inside.from in
    let end_is : c.index-2.result.now ≡ value_at old g.to = c.index-2.ensures ∙ get_or_default old g.to c.index-2.result.now (pos 0) inside.to in
    let is : c.sum-distance.result ≡ value_at old g.from +ℤ g.rest = omega (arith, ints) in
    let read = read_narrow c.sum-distance.result (omega (arith, ints), omega (arith, ints)) in
    rw read (shorter-by hub gaps g old c.sum-distance.result inside c.requires.range is (omega (arith, ints)) within)
