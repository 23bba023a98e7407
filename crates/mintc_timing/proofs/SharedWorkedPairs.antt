-- The pairs and violations of the two latches by computation.
use Rattle.std.proofs.Common.{◌≡◌, ◌≢◌, ℕ, zero, suc, ◌<◌, ◌+◌, ◌*◌, pos, ◌≤ℤ◌, IsFalse, List, [], ◌∷◌, get_or, arith, refl, ap, sym, inl, inr}
use Rattle.std.proofs.lemmas.Int.{ints, clamps}
use Rattle.std.specs.List.{All, Contains}
use Rattle.std.proofs.lemmas.List.Elements.{All-nil, All-cons}
use Rattle.mintc_timing.specs.declared.parts.Pair.{Pair}
use Rattle.mintc_timing.specs.declared.violation.Broken.TheVariants as broken
use Rattle.mintc_timing.specs.Design.{element_at, pair_at}
use Rattle.mintc_timing.specs.Paths.{Leads, IsPath, HasExtremes, ArePairs, ComesBefore}
use Rattle.mintc_timing.specs.Departures.{AreLate, AreEarly, departure, late_departure, early_departure}
use Rattle.mintc_timing.specs.Violations.{AreViolations, HasLoop, check}
use Rattle.mintc_timing.specs.Worked.{ring, of_99, overlapping, pair}
use Rattle.mintc_timing.proofs.SharedLoops.{no_loop}

-- no arc leaves an input
stops_at_0 : (path : List ℕ) (b : ℕ) → Leads ring.flat.arcs 0 path b → (path ≡ []) × (b ≡ 0)
stops_at_0 [] b h = (refl, sym h)
stops_at_0 (zero ∷ path) b h = absurd (omega (arith, h.1))
stops_at_0 (suc zero ∷ path) b h = absurd (omega (arith, h.1))
stops_at_0 (suc (suc n) ∷ path) b h = absurd (omega (arith, h.0))

stops_at_2 : (path : List ℕ) (b : ℕ) → Leads ring.flat.arcs 2 path b → (path ≡ []) × (b ≡ 2)
stops_at_2 [] b h = (refl, sym h)
stops_at_2 (zero ∷ path) b h = absurd (omega (arith, h.1))
stops_at_2 (suc zero ∷ path) b h = absurd (omega (arith, h.1))
stops_at_2 (suc (suc n) ∷ path) b h = absurd (omega (arith, h.0))

-- the paths from each element
from_a : (path : List ℕ) (b : ℕ) → IsPath ring.flat.arcs 0 path b → (path ≡ 0 ∷ []) × (b ≡ 2)
from_a [] b h = absurd (h.0 refl)
from_a (zero ∷ path) b h = let rest = stops_at_2 path b h.1.2 in (ap (λ p. 0 ∷ p) rest.0, rest.1)
from_a (suc zero ∷ path) b h = absurd (omega (arith, h.1.1))
from_a (suc (suc n) ∷ path) b h = absurd (omega (arith, h.1.0))

from_b : (path : List ℕ) (b : ℕ) → IsPath ring.flat.arcs 1 path b → (path ≡ 1 ∷ []) × (b ≡ 0)
from_b [] b h = absurd (h.0 refl)
from_b (zero ∷ path) b h = absurd (omega (arith, h.1.1))
from_b (suc zero ∷ path) b h = let rest = stops_at_0 path b h.1.2 in (ap (λ p. 1 ∷ p) rest.0, rest.1)
from_b (suc (suc n) ∷ path) b h = absurd (omega (arith, h.1.0))

some_path : (n : ℕ) (path : List ℕ) → (n ∷ path) ≢ []
some_path n path h = cc

first_pair : HasExtremes ring.flat (pair 0 1 (pos 20))
first_pair = record {
  from = omega arith;
  to = omega arith;
  greatest = record {
    attained = (0 ∷ [], (some_path 0 [], (omega arith, refl, refl)), refl);
    bound = λ path h. rw (from_a path 2 h).0 (omega (arith, ints));
  };
  least = record {
    attained = (0 ∷ [], (some_path 0 [], (omega arith, refl, refl)), refl);
    bound = λ path h. rw (from_a path 2 h).0 (omega (arith, ints));
  };
}

second_pair : HasExtremes ring.flat (pair 1 0 (pos 60))
second_pair = record {
  from = omega arith;
  to = omega arith;
  greatest = record {
    attained = (1 ∷ [], (some_path 1 [], (omega arith, refl, refl)), refl);
    bound = λ path h. rw (from_b path 0 h).0 (omega (arith, ints));
  };
  least = record {
    attained = (1 ∷ [], (some_path 1 [], (omega arith, refl, refl)), refl);
    bound = λ path h. rw (from_b path 0 h).0 (omega (arith, ints));
  };
}

each_pair : All (HasExtremes ring.flat) ring.pairs
each_pair = All-cons (HasExtremes ring.flat) (pair 0 1 (pos 20)) (pair 1 0 (pos 60) ∷ []) first_pair
    (All-cons (HasExtremes ring.flat) (pair 1 0 (pos 60)) [] second_pair (All-nil (HasExtremes ring.flat)))

below_two : (P : ℕ → Type 0) → P 0 → P 1 → (l : ℕ) → l < 2 → P l
below_two P a b zero h = a
below_two P a b (suc zero) h = b
below_two P a b (suc (suc l)) h = absurd (omega arith)

in_order : (k : ℕ) (d : Pair) → k + 1 < 2 → ComesBefore (get_or ring.pairs k d) (get_or ring.pairs (k + 1) d)
in_order zero d h = inl (omega arith)
in_order (suc k) d h = absurd (omega arith)

named : (j l : ℕ) (path : List ℕ) → j < 2 → l < 2 → IsPath ring.flat.arcs j path (2 * l) →
    (p : Pair) × Contains ring.pairs p × (p.from ≡ j) × (p.to ≡ l)
named zero l path p q h = (pair 0 1 (pos 20), (0, omega arith, refl), refl, omega (arith, (from_a path (2 * l) h).1))
named (suc zero) l path p q h = (pair 1 0 (pos 60), (1, omega arith, refl), refl, omega (arith, (from_b path (2 * l) h).1))
named (suc (suc j)) l path p q h = absurd (omega arith)

pub pairs_of_ring : ArePairs ring.flat ring.pairs
pairs_of_ring = record { each = each_pair; ascending = in_order; whole = named }

late_overlapping : AreLate ring overlapping (pos 0 ∷ pos 20 ∷ [])
late_overlapping = record {
  exact = record { count = refl; each = below_two (λ l. departure (pos 0 ∷ pos 20 ∷ []) l ≡ late_departure ring overlapping (pos 0 ∷ pos 20 ∷ []) l) refl refl };
  least = λ e h.
      let first = h.each 0 (omega arith) in
      let second = h.each 1 (omega arith) in
      below_two (λ l. departure (pos 0 ∷ pos 20 ∷ []) l ≤ℤ departure e l) (omega (arith, ints, clamps)) (omega (arith, ints, clamps));
}

early_overlapping : AreEarly ring overlapping (pos 0 ∷ pos 20 ∷ [])
early_overlapping = record {
  exact = record { count = refl; each = below_two (λ l. departure (pos 0 ∷ pos 20 ∷ []) l ≡ early_departure ring overlapping (pos 0 ∷ pos 20 ∷ []) l) refl refl };
  least = λ e h.
      let first = h.each 0 (omega arith) in
      let second = h.each 1 (omega arith) in
      below_two (λ l. departure (pos 0 ∷ pos 20 ∷ []) l ≤ℤ departure e l) (omega (arith, ints, clamps)) (omega (arith, ints, clamps));
}

-- the violations of the overlapping schedule, and of the cycle that is too short
pub violations_of_overlapping : AreViolations ring overlapping (check (broken.Apart 2 1) (pos 2) ∷ check (broken.Setup 1) (pos 5) ∷ [])
violations_of_overlapping =
    inr (
      no_loop ring overlapping (pos 0 ∷ pos 20 ∷ []) late_overlapping.exact each_pair,
      (pos 0 ∷ pos 20 ∷ [], pos 0 ∷ pos 20 ∷ [], late_overlapping, early_overlapping, refl),
    )

apart : (i j : ℕ) (d : ℕ) → i < j → j < 2 → (pair_at ring (get_or (0 ∷ 1 ∷ []) i d)).from ≢ (pair_at ring (get_or (0 ∷ 1 ∷ []) j d)).from
apart zero zero d h k = absurd (omega arith)
apart zero (suc zero) d h k = λ e. omega arith
apart zero (suc (suc j)) d h k = absurd (omega arith)
apart (suc i) zero d h k = absurd (omega arith)
apart (suc i) (suc zero) d h k = absurd (omega arith)
apart (suc i) (suc (suc j)) d h k = absurd (omega arith)

loop_of_99 : HasLoop ring of_99 (0 ∷ 1 ∷ []) (pos 1)
loop_of_99 = record {
  is_loop = record {
    exist = All-cons (λ n. n < 2) 0 (1 ∷ []) (omega arith) (All-cons (λ n. n < 2) 1 [] (omega arith) (All-nil (λ n. n < 2)));
    latches = All-cons (λ n. IsFalse (element_at ring.flat (pair_at ring n).from).flop) 0 (1 ∷ []) refl (All-cons (λ n. IsFalse (element_at ring.flat (pair_at ring n).from).flop) 1 [] refl (All-nil (λ n. IsFalse (element_at ring.flat (pair_at ring n).from).flop)));
    closed = (refl, refl);
    once = apart;
  };
  is_amount = refl;
  above = omega (arith, ints);
}

pub violations_of_99 : AreViolations ring of_99 (check (broken.Loop (0 ∷ 1 ∷ [])) (pos 1) ∷ [])
violations_of_99 = inl (0 ∷ 1 ∷ [], pos 1, loop_of_99, refl)
