use Rattle.std.proofs.Common.{◌≡◌, ◌<◌, ◌+◌, ◌*◌, ◌∙◌, ℕ, length, arith}
use Rattle.std.proofs.lemmas.List.{get_or_default}
use Rattle.mintc_paths_sums.specs.Placed.{row_of}
use Rattle.mintc_paths_count.proofs.Noting.{noted_more, IsBegunMark, AreMarksBegun-more}
use Rattle.mintc_paths_count.proofs.marks.begin.Goals as goal

pub loop-lane-preserved : goal.loop-lane-preserved
loop-lane-preserved c =
    let rows = c.args.sequence.now.rows.of_bits.items in
    let n : ℕ = length c.args.marks.now in
    let lane : ℕ = c.loop-lane.lane in
    let bit : ℕ = 2 * (c.args.first + lane) + 1 in
    let row : ℕ = c.index-row.result.now in
    let old = c.loop-lane.marks in
    let new = c.set.new.marks in
    let h = c.requires.rows.of_bits in
    let inside : bit < n = omega arith in
    let is_row : row ≡ row_of rows bit = c.index-row.ensures ∙ get_or_default rows bit row 0 (omega (arith, h.count)) in
    let begun : IsBegunMark old new row lane = record { others = c.set.ensures.others; lanes = c.set.ensures.lanes; own = c.set.ensures.own } in
    record {
      begun = AreMarksBegun-more n rows c.args.sequence.now.rows.bits.items h c.args.first lane (omega arith) old new inside
          (rw is_row at begun) c.loop-lane.invariant.begun;
      marked = rw c.reach.ensures.reached (noted_more old new c.loop-lane.reached row c.set.auto.marks c.set.ensures.others c.loop-lane.invariant.marked);
      awake = c.reach.ensures.awake 0 c.loop-lane.invariant.awake;
      count = c.set.auto.marks ∙ c.loop-lane.invariant.count;
    }
