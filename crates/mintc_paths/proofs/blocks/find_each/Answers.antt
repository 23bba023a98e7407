use Rattle.std.proofs.Common.{◌≡◌, ◌<◌, ◌*◌, ◌^◌, ◌∙◌, ℕ, length, arith}
use Rattle.mintc_lanes.specs.Lanes.{AreLanes}
use Rattle.mintc_paths_sums.specs.Sums.{sums_at}
use Rattle.mintc_paths.proofs.Filling.{IsBounded-weaker}
use Rattle.mintc_paths.proofs.Rowing.{bounded_each}
use Rattle.mintc_paths.proofs.blocks.find_each.Goals as goal

pub refuse_long-requires : goal.refuse_long-requires
refuse_long-requires g c =
    let h = c.requires.0.is_sequence in
    let kept = h.is_ordered.kept in
    let same : length c.fill.new.sums ≡ length c.args.sums.now = c.in_ok-fill.ensures.count ∙ c.loop-first.invariant.bits in
    let bounded : (row : ℕ) → row < length c.fill.new.sums → AreLanes (sums_at c.fill.new.sums row).greatest = λ row inside.
    let each = bounded_each g.of.design.arcs g.of.order (length g.of.order) c.loop-first.first c.min-lanes.result (length c.args.sums.now) c.args.plan.now.sequence.now.rows h.is_sequence.rows c.fill.new.sums
    c.in_ok-fill.ensures.sums row (omega arith) in
    (IsBounded-weaker (length g.of.order * 1000000000) (2 * 10 ^ 18) (sums_at c.fill.new.sums row) (omega (arith, kept.arcs, h.is_ordered.order.count)) each).greatest in
    (kept.elements, (omega (arith, h.bits, kept.elements, kept.inner), (omega (arith, c.min-lanes.ensures, c.requires.0.elements), (c.in_ok-fill.ensures.extremes, (bounded, (c.loop-first.invariant.short, c.requires.0.known))))))
