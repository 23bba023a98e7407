use Rattle.std.proofs.Common.{◌≡◌, ◌<◌, ◌+◌, ℕ, ℤ, ◌+ℤ◌, List, length, get_or, take, arith, ap, sym, ◌∙◌, w64, of_z, to_z}
use Rattle.std.proofs.lemmas.Int.{ints, to_z-of_z}
use Rattle.std.proofs.lemmas.List.{take_more}
use Rattle.mintc_timing.specs.declared.parts.TimingArc.{TimingArc}
use Rattle.mintc_graph.specs.Rings.{total}
use Rattle.mintc_timing.specs.Design.{no_arc}
use Rattle.mintc_timing.specs.Limits.{IsArc, IsDelay}
use Rattle.mintc_timing.specs.Paths.{arc_at, output_of, Leads}
use Rattle.mintc_timing.proofs.SharedOrdered.{Leads-push}
use Rattle.mintc_graph.proofs.SharedRingLaws.{total-push}
use Rattle.mintc_paths.specs.declared.trace.Extreme.{Extreme}
use Rattle.mintc_paths.specs.declared.trace.Extreme.TheVariants.{Greatest, Least}
use Rattle.mintc_paths.specs.Trace.{weight_of, delay_of}
use Rattle.mintc_paths.proofs.listed.is_listed_with.Goals as goal

is_delay : (extreme : Extreme) (arc : TimingArc) (n m : ℕ) → IsArc n m arc → IsDelay (delay_of extreme arc)
is_delay Greatest arc n m h = h.max
is_delay Least arc n m h = h.min

leads_more : (arcs : List TimingArc) (from : ℕ) (path : List ℕ) (i bit : ℕ) → i < length path → get_or path i 0 < length arcs → (arc_at arcs (get_or path i 0)).from ≡ bit →
    Leads arcs from (take i path) bit → Leads arcs from (take (i + 1) path) (arc_at arcs (get_or path i 0)).to
leads_more arcs from path i bit low below leaves h = rw (take_more path i 0 low) (Leads-push arcs from (take i path) (get_or path i 0) below (rw leaves h))

total_more : (weight : ℕ → ℤ) (path : List ℕ) (i : ℕ) → i < length path → total weight (take (i + 1) path) ≡ total weight (take i path) +ℤ weight (get_or path i 0)
total_more weight path i low = ap (total weight) (take_more path i 0 low) ∙ total-push weight (take i path) (get_or path i 0)

pub loop-number-preserved : goal.loop-number-preserved
loop-number-preserved c =
    let arcs = c.arcs-arcs.result.now in
    let path = c.args.path.now in
    let i : ℕ = c.loop-number.number-index in
    let n : ℕ = get_or path i 0 in
    let below : n < length arcs = omega arith in
    let h = c.loop-number.invariant in
    let in_design : IsArc (length c.args.flat.now.elements) (length c.args.flat.now.inner) (arc_at arcs n) =
    rw c.arcs-arcs.ensures.value (c.arcs-arcs.ensures.kept.each_arc n no_arc (rw c.arcs-arcs.ensures.value at below)) in
    let delay : IsDelay c.delay_at-summed.result = rw c.delay_at-summed.ensures (is_delay c.args.wanted.extreme (arc_at arcs n) (length c.args.flat.now.elements) (length c.args.flat.now.inner) in_design) in
    let whole : to_z w64 (of_z w64 c.delay_at-summed.result) ≡ c.delay_at-summed.result = to_z-of_z w64 c.delay_at-summed.result (omega (arith, ints)) in
    let few : i < length path = c.loop-number-test.true in
    let all = ap (λ (xs : List TimingArc). length xs) c.arcs-arcs.ensures.value in
    let summed : ℤ = to_z w64 c.loop-number.summed-bits in
    let sum : to_z w64 (of_z w64 (summed +ℤ c.delay_at-summed.result)) ≡ summed +ℤ c.delay_at-summed.result = to_z-of_z w64 (summed +ℤ c.delay_at-summed.result) (omega (arith, ints, c.arcs-arcs.ensures.kept.arcs)) in
    let sum_is : to_z w64 (of_z w64 (summed +ℤ to_z w64 (of_z w64 c.delay_at-summed.result))) ≡ summed +ℤ c.delay_at-summed.result = rw whole sum in
    record {
      leads = rw c.from-bit.ensures (leads_more arcs (output_of c.args.wanted.from) path i c.loop-number.bit few below (sym c.from-in-loop-number.ensures ∙ c.if-from-bit.false) h.leads);
      summed = total_more (weight_of c.args.wanted.extreme arcs) path i few ∙ ap (λ z. z +ℤ weight_of c.args.wanted.extreme arcs n) h.summed ∙ ap (λ z. summed +ℤ z) (sym c.delay_at-summed.ensures) ∙ sym sum_is;
      low = rw sum_is (omega (arith, ints));
      high = rw sum_is (omega (arith, ints));
    }
