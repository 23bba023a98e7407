use Rattle.std.proofs.Common.{◌≡◌, ◌≤◌, ◌*◌, ◌∙◌, length, arith}
use Rattle.mintc_paths_count.specs.declared.marks.TheConstants.{NO_MARKS}
use Rattle.mintc_paths_count.specs.Count.{AreListed}
use Rattle.mintc_paths_count.specs.Marks.{marks_at}
use Rattle.mintc_paths_count.proofs.Counting.{AreEndsOf-marks}
use Rattle.mintc_paths_count.proofs.count.count_each.Goals as goal

pub count_from-count-requires : goal.count_from-count-requires
count_from-count-requires g c =
    let h = c.requires.0 in
    let inputs : length c.gather.new.ends ≡ length g.of.design.elements = omega (arith, c.gather.auto.ends, c.loop-first.invariant.inputs, c.requires.1.0) in
    let bits : 2 * length g.of.design.elements ≤ length c.loop-first.marks = omega (arith, h.bits, c.loop-first.invariant.bits) in
    let ends = AreEndsOf-marks g.of.design g.of.order h.is_ordered.order (length c.loop-first.marks) c.args.sequence.now.rows.of_bits.items c.loop-first.first c.min-lanes.result c.loop-lane.lane
    c.mark_all.new.marks c.gather.new.ends c.mark_all.ensures.along bits c.loop-lane-test.true (omega (arith, c.min-lanes.ensures, c.requires.1.0)) (λ to inside. c.gather.ensures to (omega arith)) in
    let near = c.in_ok-list_reached.ensures c.mark_all.new.marks c.mark_all.ensures.marked in
    let listed : AreListed (λ to. marks_at c.gather.new.ends to ≡ NO_MARKS) (length g.of.design.elements) c.list_reached.new.listed.items = record {
      ascending = near.ascending;
      inside = λ i low. omega (arith, near.inside i low);
      others = λ to low apart. c.gather.ensures to (omega arith) ∙ near.others to (omega arith) apart;
    } in
    (inputs, (h.is_ordered.kept.elements, (omega (arith, c.min-lanes.ensures), (omega (arith, c.min-lanes.ensures), (ends, (rw c.deref.ensures.value listed, c.loop-lane.invariant))))))
