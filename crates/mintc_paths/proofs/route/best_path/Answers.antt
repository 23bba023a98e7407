use Rattle.std.proofs.Common.{◌≡◌, ◌≤◌, ◌+◌, ◌*◌, ◌∙◌, ℕ, List, length, arith, rules, sym, ap, subst}
use Rattle.std.proofs.lemmas.Grind.{common_steps}
use Rattle.mintc_timing.specs.Design.{Design}
use Rattle.mintc_timing.specs.Paths.{input_of, output_of}
use Rattle.mintc_paths_sums.specs.Sums.{sums_at}
use Rattle.mintc_paths.specs.Ordered.{Ordered, ordered, IsSequenceOf}
use Rattle.mintc_paths.specs.Sums.{AreSums}
use Rattle.mintc_paths.specs.Trace.{IsOfPair}
use Rattle.mintc_paths.proofs.Filling.{IsBounded-weaker}
use Rattle.mintc_paths.proofs.Pairing.{AreBestSums-from_sums, IsBestPath-from_trace, path_of_pair, IsOfPair-from_best}
use Rattle.mintc_paths.proofs.Rowing.{placed_plain}
use Rattle.mintc_paths.proofs.route.best_path.Given.{Over}
use Rattle.mintc_paths.proofs.route.best_path.Goals as goal
use Rattle.mintc_paths.proofs.route.best_path.Goals.{In_ok-fill}

-- the sums at the bits
sums_are : (g : Over) (c : In_ok-fill g) → AreSums c.flat-flat.result.now.arcs c.order-order.result.now (length c.order-order.result.now) c.args.from 1 c.fill.new.sums
sums_are g c =
    let design = c.flat-flat.result.now in
    let order = c.order-order.result.now in
    let of_is : g.of ≡ ordered design order = rw (c.flat-flat.ensures.value, c.order-order.ensures) c.requires.0 in
    let bits : length c.in_ok-sums.sums ≡ 2 * length design.elements + length design.inner = search rules in
    let rows = c.in_ok-sequence.sequence.rows.of_bits.items in
    let count = c.in_ok-sequence.ensures.sequence.rows.of_bits.count in
    rw (of_is, placed_plain rows c.fill.new.sums (omega (arith, bits, c.in_ok-fill.ensures.count)) (λ bit low. c.in_ok-sequence.ensures.own bit (omega arith))) at c.in_ok-fill.ensures.sums

pub fill-requires : goal.fill-requires
fill-requires g c =
    let design = c.flat-flat.result.now in
    let order = c.order-order.result.now in
    let value = c.flat-flat.ensures.value in
    let of_is : g.of ≡ ordered design order = rw (value, c.order-order.ensures) c.requires.0 in
    let bits : length c.in_ok-sums.sums ≡ 2 * length design.elements + length design.inner = c.in_ok-sums.ensures.count ∙ c.bit_count-bits.ensures.value in
    let is_sequence : IsSequenceOf (length c.in_ok-sums.sums) (ordered design order) c.in_ok-sequence.sequence = record {
      is_ordered = record { kept = c.bit_count-bits.ensures.kept; order = rw (value, c.order-order.ensures) c.flat-flat.ensures.kept.ordered };
      bits = bits;
      is_sequence = rw bits c.in_ok-sequence.ensures.sequence;
    } in
    let some = path_of_pair c.args.system.now c.args.from c.args.to c.flat-flat.ensures.kept.extremes c.requires.1 in (
      rw of_is is_sequence,
      (
        omega arith,
        (
          omega (arith, some.0, ap (λ (o : Ordered). length o.design.elements) of_is, ap (λ (f : Design). length f.elements) value),
          (record { count = grind (arith, common_steps); none = λ bit low off. c.in_ok-sums.ensures.none bit (omega (arith, c.in_ok-sums.ensures.count)) }, search rules),
        ),
      ),
    )

pub trace-requires-clause-bounded : goal.trace-requires-clause-bounded
trace-requires-clause-bounded g c = λ bit inside.
    let order = ap (λ (xs : List ℕ). length xs) c.order-order.ensures in
    let arcs = ap (λ (f : Design). length f.arcs) c.flat-flat.ensures.value in
    let few : length c.order-order.result.now * 1000000000 ≤ 20000000000000000 = omega (arith, c.flat-flat.ensures.kept.ordered.count, c.bit_count-bits.ensures.kept.arcs) in
    IsBounded-weaker (length c.order-order.result.now * 1000000000) 20000000000000000 (sums_at c.fill.new.sums bit) few ((sums_are g (goal.at.trace-requires-clause-bounded g c).In_ok-fill).bounded bit inside)

pub returns : goal.returns
returns g c =
    let t = c.args.system.now in
    let kept = c.flat-flat.ensures.kept in
    let sums = rw (c.flat-flat.ensures.value, c.order-order.ensures) at (sums_are g (goal.at.returns g c).In_ok-fill) in
    let best_sums = AreBestSums-from_sums c.args.extreme t.flat.arcs t.order c.args.from c.fill.new.sums sums in
    let some = path_of_pair t c.args.from c.args.to kept.extremes c.requires.1 in
    let elements = ap (λ (f : Design). length f.elements) c.flat-flat.ensures.value in
    let bits : length c.fill.new.sums ≡ 2 * length c.flat-flat.result.now.elements + length c.flat-flat.result.now.inner = search rules in
    let found = IsBestPath-from_trace c.args.extreme t.flat.arcs t.order kept.ordered c.fill.new.sums (output_of c.args.from) (input_of c.args.to) best_sums (omega arith) (omega arith) c.in_ok-path.path.items some.2.0 some.2.1
    (rw (c.flat-flat.ensures.value, c.order-order.ensures) at c.in_ok-path.ensures) in
    subst (λ xs. IsOfPair c.args.extreme t c.args.from c.args.to xs) (sym c.new-4.ensures) (IsOfPair-from_best c.args.extreme t c.args.from c.args.to c.in_ok-path.path.items kept.extremes found)
