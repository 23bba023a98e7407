-- Arcs that stand in an order keep it.
use Rattle.std.proofs.Common.{◌≡◌, ◌<◌, ℕ, List, length, get_or, sym, ap, ◌∙◌, arith}
use Rattle.std.proofs.lemmas.List.{get_or_default}
use Rattle.mintc_timing.specs.declared.parts.TimingArc.{TimingArc}
use Rattle.mintc_timing.specs.Paths.{arc_at}
use Rattle.mintc_timing.specs.Order.{IsOrder}
use Rattle.mintc_order.specs.Standing.{StandInOrder}

pub order_as_they_stand : (arcs : List TimingArc) (numbers : List ℕ) → StandInOrder arcs → length numbers ≡ length arcs → ((k : ℕ) → k < length arcs → get_or numbers k 0 ≡ k) → IsOrder arcs numbers
order_as_they_stand arcs numbers standing count own = record {
  count = count;
  whole = λ n below. (n, omega (arith, below, count), get_or_default numbers n n 0 (omega (arith, below, count)) ∙ own n below);
  ordered = λ i j first second same.
      let i_own : get_or numbers i 0 ≡ i = own i (omega (arith, first, count)) in
      let j_own : get_or numbers j 0 ≡ j = own j (omega (arith, second, count)) in
      standing i j (omega (arith, first, count)) (omega (arith, second, count)) (ap (λ (n : ℕ). (arc_at arcs n).to) (sym i_own) ∙ same ∙ ap (λ (n : ℕ). (arc_at arcs n).from) j_own);
}
