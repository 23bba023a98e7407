use Rattle.std.proofs.lemmas.Grind.{common_steps}
use Rattle.std.proofs.Common.{◌≡◌, ◌<◌, ◌+◌, ◌-◌, ℕ, length, get_or, arith, subst, ◌∙◌, sym}
use Rattle.std.specs.Prelude.{reverse}
use Rattle.mintc_timing.specs.Paths.{Leads, arc_at}
use Rattle.mintc_graph.specs.Rings.{total}
use Rattle.mintc_timing.specs.Limits.{IsArc}
use Rattle.mintc_paths.specs.Trace.{weight_of}
use Rattle.mintc_paths.proofs.Filling.{arc_inside}
use Rattle.mintc_paths.proofs.Tracing.{KeepsTraced, KeepsTraced-passed, KeepsTraced-taken, traced_all}
use Rattle.mintc_paths.proofs.trace.trace.Goals as goal
use Rattle.mintc_paths.proofs.trace.trace.Goals.{After-is_last}

pub is_last-requires-clause-bounded : goal.is_last-requires-clause-bounded
is_last-requires-clause-bounded c =
    let of_order : c.items-numbers.result.now ≡ c.args.order.now = c.items-numbers.ensures ∙ c.arcs.ensures in
    let i : ℕ = c.loop-left.left - 1 in
    let in_design = arc_inside c.args.flat.now.arcs c.args.order.now c.requires.order (length c.args.flat.now.elements) (length c.args.flat.now.inner) c.arcs-arcs.ensures.kept.each_arc i (omega arith) in
    rw (c.arcs-arcs.ensures.value, of_order) (c.requires.bounded (arc_at c.args.flat.now.arcs (get_or c.args.order.now i 0)).from (omega (arith, in_design.from)))

-- the numbers that the loop reads
of_order : (c : After-is_last) → c.items-numbers.result.now ≡ c.args.order.now
of_order c = c.items-numbers.ensures ∙ c.arcs.ensures

-- Its place is in the order.
low : (c : After-is_last) → c.loop-left.left - 1 < length c.args.order.now
low c = omega arith

-- the arc of this turn
arc : (c : After-is_last) → IsArc (length c.args.flat.now.elements) (length c.args.flat.now.inner) (arc_at c.args.flat.now.arcs (get_or c.args.order.now (c.loop-left.left - 1) 0))
arc c = arc_inside c.args.flat.now.arcs c.args.order.now c.requires.order (length c.args.flat.now.elements) (length c.args.flat.now.inner) c.arcs-arcs.ensures.kept.each_arc (c.loop-left.left - 1) (low c)

-- what is traced before it
before : (c : After-is_last) → KeepsTraced c.args.extreme c.args.flat.now.arcs c.args.order.now c.args.sums.now c.args.end (c.loop-left.left - 1 + 1) c.loop-left.bit c.loop-left.path.items
before c =
    subst (λ k. KeepsTraced c.args.extreme c.args.flat.now.arcs c.args.order.now c.args.sums.now c.args.end k c.loop-left.bit c.loop-left.path.items) (omega arith) c.loop-left.invariant.traced

pub loop-left-preserved : goal.loop-left-preserved
loop-left-preserved c =
    let turn = (goal.at.loop-left-preserved c).After-is_last in
    let i : ℕ = c.loop-left.left - 1 in
    let in_design = arc turn in
    let only_if = rw (c.arcs-arcs.ensures.value, of_order turn) at c.is_last.ensures.1 in
    record {
      inside = omega (arith, low turn);
      bit = c.loop-left.invariant.bit;
      traced = KeepsTraced-passed c.args.extreme c.args.flat.now.arcs c.args.order.now c.requires.order c.args.sums.now c.args.end i c.loop-left.bit c.loop-left.path.items (low turn)
          (omega (arith, in_design.from)) (omega (arith, in_design.to)) (before turn)
          (λ enters through. let yes = only_if (enters, through) in let never = c.if-is_last.false in absurd (cc));
    }

pub loop-left-preserved-then-is_last : goal.loop-left-preserved-then-is_last
loop-left-preserved-then-is_last c =
    let turn = (goal.at.loop-left-preserved-then-is_last c).After-is_last in
    let i : ℕ = c.loop-left.left - 1 in
    let in_design = arc turn in
    let last = rw (c.arcs-arcs.ensures.value, of_order turn) at (c.is_last.ensures.0 c.if-is_last.true) in
    let pushed = rw (of_order turn) at c.in_ok-push.ensures.items in
    record {
      inside = omega (arith, low turn);
      bit = rw (c.arcs-arcs.ensures.value, of_order turn) (omega (arith, in_design.from));
      traced = rw (c.arcs-arcs.ensures.value, of_order turn, pushed)
          (KeepsTraced-taken c.args.extreme c.args.flat.now.arcs c.args.order.now c.requires.order c.args.sums.now c.args.end i c.loop-left.bit c.loop-left.path.items (low turn)
          (omega (arith, in_design.from)) (omega (arith, in_design.to)) (before turn) last.0 last.1);
    }

pub returns : goal.returns
returns c = λ from best sums_are zero best_is.
    let done : c.loop-left.left ≡ 0 = omega arith in
    let traced = subst (λ k. KeepsTraced c.args.extreme c.args.flat.now.arcs c.args.order.now c.args.sums.now c.args.end k c.loop-left.bit c.loop-left.path.items) done c.loop-left.invariant.traced in
    let all = traced_all c.args.extreme c.args.flat.now.arcs c.args.order.now c.requires.order c.args.sums.now from c.args.end best sums_are c.loop-left.bit (reverse c.loop-left.path.items) zero
    (traced from best sums_are best_is) in
    subst (λ xs. Leads c.args.flat.now.arcs from xs c.args.end × (total (weight_of c.args.extreme c.args.flat.now.arcs) xs ≡ best)) (sym c.reverse.ensures.items) all

pub is_last-requires-clause-from : goal.is_last-requires-clause-from
is_last-requires-clause-from c = grind (arith, common_steps)

pub is_last-requires-clause-to : goal.is_last-requires-clause-to
is_last-requires-clause-to c = grind (arith, common_steps)

pub is_last-requires-clause-min : goal.is_last-requires-clause-min
is_last-requires-clause-min c = grind (arith, common_steps)

pub is_last-requires-clause-max : goal.is_last-requires-clause-max
is_last-requires-clause-max c = grind (arith, common_steps)
