use Rattle.std.proofs.Common.{◌≡◌, ◌+◌, ℤ, ◌+ℤ◌, ◌*ℤ◌, ◌≤ℤ◌, pos, negsuc, List, length, get_or, take, to_z, of_z, ap, ◌∙◌, sym, arith}
use Rattle.std.specs.Int.{w128}
use Rattle.std.proofs.lemmas.Int.{ints, clamps}
use Rattle.mintc_timing.specs.Paths.{arc_at, greatest_delay}
use Rattle.mintcx_reports.proofs.HopLaws.{arcs_more, ends_more}
use Rattle.mintcx_reports.proofs.hops.push_arcs.Goals as goal

pub push_arc-requires-clause-time : goal.push_arc-requires-clause-time
push_arc-requires-clause-time c =
    let arc = c.arc_time-at.ensures in
    let kept = c.loop-number.invariant in
    let below = c.loop-number-test.true in
    let few = c.requires.few in
    let first = c.requires.low.le in
    let last = c.requires.high.le in
    (omega (arith, ints, clamps, arc.low, arc.high, kept.low, kept.high), omega (arith, ints, clamps, arc.low, arc.high, kept.low, kept.high))

pub loop-number-preserved : goal.loop-number-preserved
loop-number-preserved c =
    let design = c.args.told.now.flat.now in
    let s = c.args.told.now.schedule.now in
    let path = c.args.arcs.now in
    let i = c.loop-number.number-index in
    let begin = to_z w128 (of_z w128 c.args.begin) in
    let arc = c.arc_time-at.ensures in
    let kept = c.loop-number.invariant in
    let below = c.loop-number-test.true in
    let few = c.requires.few in
    let first = c.requires.low.le in
    let last = c.requires.high.le in
    let at = to_z w128 c.loop-number.at-bits in
    let next = to_z w128 (of_z w128 (at +ℤ to_z w128 (of_z w128 c.arc_time-at.result))) in
    let both : next ≡ at +ℤ c.arc_time-at.result = omega (arith, ints, clamps, arc.low, arc.high, kept.low, kept.high) in
    let ends : next ≡ begin +ℤ greatest_delay design.arcs (take (i + 1) path) *ℤ s.den =
    both ∙ ap (λ (x : ℤ). x +ℤ c.arc_time-at.result) kept.at_is
    ∙ ap (λ (x : ℤ). (begin +ℤ greatest_delay design.arcs (take i path) *ℤ s.den) +ℤ x) arc.value ∙ sym (ends_more design.arcs path i begin s.den below) in
    record {
      columns = c.in_ok-push_arc.ensures.columns ∙ kept.columns;
      at_is = ends;
      low = omega (arith, ints, both, arc.low, kept.low);
      high = omega (arith, ints, both, arc.high, kept.high);
      rows = arcs_more design s c.args.told.now.cells.now c.args.told.now.unit c.args.element path begin next i
          c.args.table.now.rows c.loop-number.table.rows c.push_arc.new.table.rows kept.rows ends c.in_ok-push_arc.ensures.ok;
    }
