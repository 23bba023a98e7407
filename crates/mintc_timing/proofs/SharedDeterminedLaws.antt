-- Departures and least cycles are determined; paths join.
use Rattle.std.proofs.Common.{◌≡◌, ◌≢◌, ℕ, ◌<◌, ℤ, pos, ◌≤ℤ◌, ◌*ℤ◌, List, [], ◌∷◌, ◌++◌, length, arith, refl, ◌∙◌, sym}
use Rattle.std.proofs.Math.IntN.{zero-*ℤ}
use Rattle.std.proofs.lemmas.Int.{ints}
use Rattle.std.proofs.lemmas.List.{same_lists, get_or_default}
use Rattle.mintc_timing.specs.declared.parts.TimingArc.{TimingArc}
use Rattle.mintc_graph.proofs.SharedRingLaws.{total-append, LeadsBy-append}
use Rattle.mintc_timing.specs.Design.{element_count, no_arc}
use Rattle.mintc_timing.specs.Links.{delay_of}
use Rattle.mintc_timing.specs.Paths.{arc_at}
use Rattle.mintc_timing.specs.Departures.{departure}
use Rattle.mintc_timing.specs.Laws.{LateAreDetermined, EarlyAreDetermined, PathsJoin, LeastCycleIsDetermined, LeastCycleIsNoHopelessness, ForbidsAll}
use Rattle.mintc_timing.proofs.LeastLaws.{AreLate-unique, IsLeastCycle-unique}
use Rattle.mintc_timing.proofs.SharedProducts.{times-mono_positive}

-- lists of one length whose numbers agree
same_numbers : (d e : List ℤ) (n : ℕ) → length d ≡ n → length e ≡ n → ((l : ℕ) → l < n → departure d l ≡ departure e l) → d ≡ e
same_numbers d e n p q h = same_lists d e (p ∙ sym q)
    (λ k x below. get_or_default d k x (pos 0) below ∙ h k (omega arith) ∙ get_or_default e k (pos 0) x (omega arith))

pub late_are_determined_lem : LateAreDetermined
late_are_determined_lem t s d e a b = same_numbers d e (element_count t.flat) a.exact.count b.exact.count (AreLate-unique t s d e a b)

pub early_are_determined_lem : EarlyAreDetermined
early_are_determined_lem t s d e a b = same_numbers d e (element_count t.flat) a.exact.count b.exact.count
    (λ l h. let low = a.least e b.exact l h in let high = b.least d a.exact l h in omega (arith, ints))

some_front : (front back : List ℕ) → front ≢ [] → (front ++ back) ≢ []
some_front [] back h = λ _. h refl
some_front (n ∷ front) back h = λ e. cc

pub paths_join_lem : PathsJoin
paths_join_lem arcs j between bit front back h g = record {
  is_path = (some_front front back h.0, LeadsBy-append (λ (a : TimingArc). a.from) (λ (a : TimingArc). a.to) no_arc arcs _ front between back bit h.1 g);
  greatest = total-append (λ n. (arc_at arcs n).max) front back;
  least = total-append (λ n. (arc_at arcs n).min) front back;
}

pub least_cycle_is_determined_lem : LeastCycleIsDetermined
least_cycle_is_determined_lem t n m a b first second =
    let low = IsLeastCycle-unique t n m a b first second in
    let high = IsLeastCycle-unique t a b n m second first in
    omega (arith, ints)

pub least_cycle_is_no_hopelessness_lem : LeastCycleIsNoHopelessness
least_cycle_is_no_hopelessness_lem t n m least hopeless = let some = least.attained in hopeless some.0 some.1 some.2

pub forbids_all_lem : ForbidsAll
forbids_all_lem chain num den none positive =
    let zero_cycles : pos 0 *ℤ num ≡ pos 0 = zero-*ℤ num in
    let more : (pos 1 *ℤ den) ≤ℤ (delay_of chain *ℤ den) = times-mono_positive (pos 1) (delay_of chain) den (omega (arith, ints, none.stuck)) positive in
    let one : pos 1 *ℤ den ≡ den = omega (arith, ints) in
    rw (none.turns, zero_cycles) (omega (arith, ints))
