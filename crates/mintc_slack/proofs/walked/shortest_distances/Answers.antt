use Rattle.std.proofs.Common.{◌≡◌, ◌<◌, ◌≤ℤ◌, ◌<ℤ◌, pos, length, arith, ◌∙◌}
use Rattle.std.proofs.lemmas.Int.{ints}
use Rattle.std.proofs.lemmas.Bool.{OnTrue_at, OnTrue_from}
use Rattle.std.proofs.lemmas.List.{get_or_default}
use Rattle.mintc_graph_walks.specs.Walks.{value_at}
use Rattle.mintc_slack.specs.declared.nearest.TheConstants.{FAR}
use Rattle.mintc_slack.proofs.GapLaws.{begun-distances, far_is, shorter-on}
use Rattle.mintc_slack.proofs.SizeLaws.{read_narrow}
use Rattle.mintc_slack.proofs.walked.shortest_distances.Goals as goal

pub are_least-requires-clause-range : goal.are_least-requires-clause-range
are_least-requires-clause-range c = rw c.deref-then-home-lt-FAR.ensures.value (c.cap_at.ensures.shorter c.args.walker.now.rows.gaps.items).range

pub are_least-requires-clause-home : goal.are_least-requires-clause-home
are_least-requires-clause-home c =
    let distances = c.cap_at.new.distances.items in
    let hub = c.args.walker.now.hub in
    let some : hub < length distances = (let inside = c.requires.hub in let a = c.begin_at.ensures.count in let b = c.walk.ensures.count in let d = c.cap_at.ensures.count in omega arith) in
    let range = (c.cap_at.ensures.shorter c.args.walker.now.rows.gaps.items).range in
    let first = range hub some in
    let far = far_is in
    let home : c.index-home.result.now ≡ value_at distances hub = c.index-home.ensures ∙ get_or_default distances hub c.index-home.result.now (pos 0) some in
    let read = read_narrow c.index-home.result.now (omega (arith, ints), omega (arith, ints)) in
    rw c.deref-then-home-lt-FAR.ensures.value (λ node h. let most = c.cap_at.ensures.home node h in omega (arith, ints))

pub are_least-requires-clause-rows : goal.are_least-requires-clause-rows
are_least-requires-clause-rows c = OnTrue_at c.if-not-walker.false c.requires.rows

pub returns-then-home-lt-FAR-clause-shortest : goal.returns-then-home-lt-FAR-clause-shortest
returns-then-home-lt-FAR-clause-shortest c =
    OnTrue_from c.are_least.result _ (λ is.
    let distances = c.cap_at.new.distances.items in
    let hub = c.args.walker.now.hub in
    let some : hub < length distances = (let inside = c.requires.hub in let a = c.begin_at.ensures.count in let b = c.walk.ensures.count in let d = c.cap_at.ensures.count in omega arith) in
    let range = (c.cap_at.ensures.shorter c.args.walker.now.rows.gaps.items).range in
    let first = range hub some in
    let far = far_is in
    let home : c.index-home.result.now ≡ value_at distances hub = c.index-home.ensures ∙ get_or_default distances hub c.index-home.result.now (pos 0) some in
    let read = read_narrow c.index-home.result.now (omega (arith, ints), omega (arith, ints)) in
    let near : value_at distances hub <ℤ FAR = omega (arith, ints) in
    record {
      near = λ node h. ((range node h).0, (let most = c.cap_at.ensures.home node h in omega (arith, ints)));
      least = rw c.deref-then-home-lt-FAR.ensures.value at (OnTrue_at is c.are_least.ensures);
      walked = λ list at potentials are count.
          (shorter-on hub c.args.walker.now.rows.gaps.items _ _ _ c.walk.ensures (c.cap_at.ensures.shorter c.args.walker.now.rows.gaps.items)).kept list at potentials c.args.from are (omega arith)
          (begun-distances list at potentials c.args.from c.begin_at.new.distances.items (omega arith) c.begin_at.ensures.here c.begin_at.ensures.others);
    })
