-- Which phase feeds which, by the labels.
use Rattle.std.proofs.Common.{◌≡◌, ℕ, ◌<◌, ◌+◌, ◌-◌, ◌*◌, ◌/◌, ◌%◌, ℤ, ◌==◌, Bool, true, false, not, ◌&&◌, IsTrue, ◌↔◌, List, length, get_or, arith, refl, ap, ◌∙◌, Option, Some, None, subst}
use Rattle.std.specs.Prelude.{IfSome, IsSomeAnd, IsSome}
use Rattle.std.proofs.lemmas.Bool.Decides.{nat_tests}
use Rattle.std.proofs.lemmas.List.Folds.{Any-from_list_any, list_any-from_Any}
use Rattle.mintc_text.specs.declared.limits.TheConstants.{MOST_PHASES}
use Rattle.mintc_timing.specs.declared.parts.Pair.{Pair}
use Rattle.mintc_timing.specs.Clocking.{feeds_of, is_pair_between}
use Rattle.mintc_timing.specs.Design.{Design, Timing, element_at}
use Rattle.mintc_timing.specs.Limits.{IsPhase}
use Rattle.mintc_timing.specs.Paths.{ArePairs, HasExtremes, input_of}
use Rattle.mintc_checker.specs.declared.labels.Labels.{Labels}
use Rattle.mintc_checker.specs.Trails.{LeadsFrom, IsLabel}
use Rattle.mintc_checker.specs.Labels.{AreLabels, label_at}
use Rattle.mintc_checker.specs.Decided.{IsFed}
use Rattle.mintc_checker.specs.Judged.{IsFedAt}
use Rattle.mintc_checker.proofs.Pairing.{of_timing, pair_of_trail, timing_of, trail_of_pair}

-- Some latch on phase j is reached from phase i.
abbrev pub IsFedFrom : Design → List Labels → ℕ → ℕ → Type 0
IsFedFrom design labels i j = (l : ℕ) × (l < length design.elements) × IsFedAt design labels i j l

three : (a b i j : ℕ) (flop : Bool) → ((a == i) && (b == j) && not flop) ≡ true → (a ≡ i) × (b ≡ j) × (flop ≡ false)
three a b i j flop h = (grind (arith, nat_tests), grind (arith, nat_tests), grind (arith, nat_tests))

all_three : (a b i j : ℕ) (flop : Bool) → a ≡ i → b ≡ j → flop ≡ false → ((a == i) && (b == j) && not flop) ≡ true
all_three a b i j flop h g k = grind (arith, nat_tests)

some_of : (o : Option ℤ) (P : ℤ → Type 0) → IsSomeAnd o P → IsSome o
some_of (Some z) P h = refl
some_of None P h = absurd h

attained_of : (o : Option ℤ) (P : ℤ → Type 0) → IsSome o → IfSome o P → (z : ℤ) × P z
attained_of (Some z) P h g = (z, g)
attained_of None P h g = absurd (none h)
  where
    none : false ≡ true → ⊥
    none e = cc

same_tests : (b c : Bool) → (b ≡ true → c ≡ true) → (c ≡ true → b ≡ true) → b ≡ c
same_tests b c f g = grind arith

module _ (design : Design) (den : ℤ) (d : List ℤ) (labels : List Labels) (are_labels : AreLabels design den d labels) (i j : ℕ) (low : IsPhase MOST_PHASES i)
    (along : List ℕ) (pairs : List Pair) (are_pairs : ArePairs design pairs) where
  abbrev t : Timing
  t = timing_of design along pairs

  label_is : (l : ℕ) → l < length design.elements → IsLabel design den d i (input_of l) (label_at labels (input_of l) (i - 1))
  label_is l inside =
      let same : (i - 1) + 1 ≡ i = omega arith in
      subst (λ p. IsLabel design den d p (input_of l) (label_at labels (input_of l) (i - 1))) same (are_labels.each l (i - 1) inside (omega arith))

  pub fed-pair : IsFedFrom design labels i j → feeds_of t i j ≡ true
  fed-pair h =
      let l = h.0 in
      let trail = attained_of (label_at labels (input_of l) (i - 1)) _ h.2.2 (label_is l h.1).attained in
      let leads = trail.1.2 in
      let found = pair_of_trail design along pairs are_pairs l trail.1.0 trail.1.1 h.1 leads.trail in
      let p : Pair = found.0 in
      let from : (element_at design p.from).phase ≡ i = ap (λ k. (element_at design k).phase) found.3 ∙ leads.phase in
      let to : (element_at design p.to).phase ≡ j = ap (λ k. (element_at design k).phase) found.4 ∙ h.2.0 in
      let latch : (element_at design p.to).flop ≡ false = ap (λ k. (element_at design k).flop) found.4 ∙ h.2.1 in
      let at = found.1 in
      list_any-from_Any (is_pair_between t.flat i j) pairs (at.0, p, at.1, at.2, all_three (element_at design p.from).phase (element_at design p.to).phase i j (element_at design p.to).flop from to latch)

  pub pair-fed : feeds_of t i j ≡ true → IsFedFrom design labels i j
  pair-fed h =
      let some = Any-from_list_any (is_pair_between t.flat i j) pairs h in
      let p : Pair = some.1 in
      let extremes : HasExtremes design p = rw some.3 at (are_pairs.each some.0 p some.2) in
      let tests = three (element_at design p.from).phase (element_at design p.to).phase i j (element_at design p.to).flop some.4 in
      let trail = trail_of_pair design along pairs are_pairs p extremes in
      let leads : LeadsFrom design i (input_of p.to) p.from trail.0 = record { trail = trail.1; phase = tests.0 } in
      let l : ℕ = p.to in
      (l, extremes.to, (tests.1, tests.2, some_of (label_at labels (input_of l) (i - 1)) _ ((label_is l extremes.to).bound p.from trail.0 leads)))

  pub fed_is : (b : Bool) → IsTrue b ↔ IsFedFrom design labels i j → b ≡ feeds_of t i j
  fed_is b decides = same_tests b (feeds_of t i j) (λ h. fed-pair (decides.0 h)) (λ h. decides.1 (pair-fed h))

place_of : (i j : ℕ) → IsPhase MOST_PHASES i → IsPhase MOST_PHASES j → ((8 * (i - 1) + (j - 1)) / 8 + 1 ≡ i) × ((8 * (i - 1) + (j - 1)) % 8 + 1 ≡ j) × (8 * (i - 1) + (j - 1) < 64)
place_of i j p q = (omega arith, omega arith, omega arith)

-- A table of what is fed, place by place.
pub IsFed-from_places : (design : Design) (den : ℤ) (d : List ℤ) (labels : List Labels) (fed : List Bool) → AreLabels design den d labels → length fed ≡ 64 →
    ((k : ℕ) → k < 64 → IsTrue (get_or fed k false) ↔ IsFedFrom design labels (k / 8 + 1) (k % 8 + 1)) → IsFed design fed
IsFed-from_places design den d labels fed are_labels count each = record {
  count = count;
  each = λ i j p q. of_timing design (λ t. get_or fed (8 * (i - 1) + (j - 1)) false ≡ feeds_of t i j) (λ along pairs are_pairs.
      let place = place_of i j p q in
      fed_is design den d labels are_labels i j p along pairs are_pairs (get_or fed (8 * (i - 1) + (j - 1)) false) (rw (place.0, place.1) at (each (8 * (i - 1) + (j - 1)) place.2)));
}
