-- A design whose arcs have an order is a system's, or its first long path or its pairs refuse it: for each element and bit the
-- greatest sum tells whether a long path leads there.
use Rattle.std.proofs.Common.{◌≡◌, ◌≢◌, ℕ, zero, suc, ◌<◌, ◌≤◌, ◌+◌, ℤ, ◌≤ℤ◌, ◌<ℤ◌, List, [], ◌∷◌, length, arith, refl, sym, subst, ◌⊎◌, inl, inr, ⊎_elim, Option, Some, None}
use Rattle.std.specs.Prelude.{min}
use Rattle.std.specs.Int.{int_max}
use Rattle.std.proofs.lemmas.Bool.{cases_eq, cases_lt}
use Rattle.std.proofs.lemmas.Int.{ints, by_lt_z}
use Rattle.mintc_text.specs.Limits.{AreLimits}
use Rattle.mintc_text.specs.declared.limits.Most.{Most}
use Rattle.mintc_text.specs.declared.limits.TheConstants.{MOST_DELAY, MOST_TOLD}
use Rattle.mintc_text.specs.declared.refusals.Kind.TheVariants as kind
use Rattle.mintc_text.specs.declared.refusals.Refusal.{Refusal}
use Rattle.mintc_text.specs.declared.refusals.Refusal.TheVariants as refusal
use Rattle.mintc_timing.specs.declared.parts.Pair.{Pair}
use Rattle.mintc_timing.specs.declared.parts.TimingArc.{TimingArc}
use Rattle.mintc_timing.specs.Design.{Design}
use Rattle.mintc_timing.specs.Order.{IsOrder, IsTiming, ArePathsShort}
use Rattle.mintc_timing.specs.Paths.{Leads, ArePairs, arc_at, output_of, greatest_delay}
use Rattle.mintc_timing.proofs.SharedOrdered.{all_among}
use Rattle.mintc_paths.specs.Among.{IsBest, max_of}
use Rattle.mintc_paths.specs.Refusals.{IsLong, IsExtremesRefusal}
use Rattle.mintc_paths.specs.Existing.{OrderedDesignsHaveSystemsOrRefusals}
use Rattle.mintc_paths.proofs.Best.{greatest_choice}
use Rattle.mintc_paths.proofs.SharedExisting.{best, pairs_exist_lem}

-- the least number below another with a property that can be decided of each
abbrev Decided : Type 0 → Type 0
Decided A = A ⊎ (A → ⊥)

abbrev IsLeast : (ℕ → Type 0) → ℕ → Type 0
IsLeast P k = P k × ((m : ℕ) → m < k → P m → ⊥)

abbrev FoundBelow : (ℕ → Type 0) → ℕ → Type 0
FoundBelow P n = ((k : ℕ) × (k < n) × IsLeast P k) ⊎ ((k : ℕ) → k < n → P k → ⊥)

one_more : (P : ℕ → Type 0) (n : ℕ) → FoundBelow P n → Decided (P n) → FoundBelow P (suc n)
one_more P n (inl found) here = inl (found.0, (let low = found.1 in omega arith), found.2)
one_more P n (inr none) (inl here) = inl (n, omega arith, (here, none))
one_more P n (inr none) (inr not_here) = inr (λ k low h. ⊎_elim (λ (same : k ≡ n). not_here (subst P same h)) (λ (other : k ≡ n → ⊥). none k (lower k low other) h) (cases_eq k n))
  where
    lower : (k : ℕ) → k < suc n → (k ≡ n → ⊥) → k < n
    lower k low other = grind arith

least_below : (P : ℕ → Type 0) → ((k : ℕ) → Decided (P k)) → (n : ℕ) → FoundBelow P n
least_below P each zero = inr (λ k low h. omega arith)
least_below P each (suc n) = one_more P n (least_below P each n) (each n)

-- the last arc of a path
last_arc : (arcs : List TimingArc) (from n : ℕ) (path : List ℕ) (to : ℕ) → Leads arcs from (n ∷ path) to → (m : ℕ) × (m < length arcs) × ((arc_at arcs m).to ≡ to)
last_arc arcs from n [] to h = (n, h.0, h.2)
last_arc arcs from n (m ∷ path) to h = last_arc arcs (arc_at arcs n).to m path to h.2

enters : (arcs : List TimingArc) (from : ℕ) (path : List ℕ) (to : ℕ) → path ≢ [] → Leads arcs from path to → (m : ℕ) × (m < length arcs) × ((arc_at arcs m).to ≡ to)
enters arcs from [] to some h = absurd (some refl)
enters arcs from (n ∷ path) to some h = last_arc arcs from n path to h

module _ (most : Most) (limits : AreLimits most) (design : Design) (order : List ℕ) (is_order : IsOrder design.arcs order) where
  abbrev Long : ℕ → ℕ → Type 0
  Long j bit = (path : List ℕ) × IsLong design j bit path

  abbrev IsGreatest : ℕ → ℕ → Option ℤ → Type 0
  IsGreatest j bit x = IsBest ◌≤ℤ◌ (max_of design.arcs) design.arcs order (length order) (output_of j) bit x

  some_path : (j bit : ℕ) (path : List ℕ) → Leads design.arcs (output_of j) path bit → MOST_DELAY <ℤ greatest_delay design.arcs path → IsLong design j bit path
  some_path j bit [] leads long = absurd (omega (arith, ints))
  some_path j bit (n ∷ path) leads long = (((λ same. cc same), leads), long)

  long_by : (j bit : ℕ) (x : Option ℤ) → IsGreatest j bit x → Decided (Long j bit)
  long_by j bit None is = inr (λ h. is.bound h.0 (all_among design.arcs order is_order (output_of j) h.0 bit h.1.0.1) h.1.0.1)
  long_by j bit (Some z) is = by_lt_z MOST_DELAY z
      (λ (more : MOST_DELAY <ℤ z).
      let path = is.attained in
      inl (path.0, some_path j bit path.0 path.2 (let same = path.3 in omega (arith, ints))))
      (λ (less : z ≤ℤ MOST_DELAY).
      inr (λ h.
      let low = is.bound h.0 (all_among design.arcs order is_order (output_of j) h.0 bit h.1.0.1) h.1.0.1 in
      let high = h.1.1 in
      omega (arith, ints)))

  long_decided : (j bit : ℕ) → Decided (Long j bit)
  long_decided j bit =
      let greatest = best ◌≤ℤ◌ int_max greatest_choice (max_of design.arcs) design.arcs order is_order (length order) (omega arith) (output_of j) bit in
      long_by j bit greatest.0 greatest.1

  -- an element that a long path leaves, and the first bit that one leads to
  abbrev FirstBit : ℕ → Type 0
  FirstBit j = (bit : ℕ) × IsLeast (Long j) bit

  first_bit : (j bit : ℕ) → Long j bit → FirstBit j
  first_bit j bit h = ⊎_elim
      (λ (found : (k : ℕ) × (k < bit + 1) × IsLeast (Long j) k). (found.0, found.2))
      (λ (none : (k : ℕ) → k < bit + 1 → Long j k → ⊥). absurd (none bit (omega arith) h))
      (least_below (Long j) (long_decided j) (bit + 1))

  leaves_long : (j : ℕ) → Decided (FirstBit j)
  leaves_long j = ⊎_elim
      (λ (found : (n : ℕ) × (n < length design.arcs) × IsLeast (λ n. Long j (arc_at design.arcs n).to) n). inl (first_bit j (arc_at design.arcs found.0).to found.2.0))
      (λ (none : (n : ℕ) → n < length design.arcs → Long j (arc_at design.arcs n).to → ⊥).
      inr (λ h.
      let path = h.1.0 in
      let last = enters design.arcs (output_of j) path.0 h.0 path.1.0.0 path.1.0.1 in
      none last.0 last.1 (subst (λ (bit : ℕ). Long j bit) (sym last.2) path)))
      (least_below (λ n. Long j (arc_at design.arcs n).to) (λ n. long_decided j (arc_at design.arcs n).to) (length design.arcs))

  abbrev Answer : Type 0
  Answer = ((pairs : List Pair) × IsTiming design order pairs × (length pairs ≤ most.pairs)) ⊎ ((refused : Refusal) × IsExtremesRefusal most design refused)

  of_first : (j : ℕ) → j < length design.elements → IsLeast FirstBit j → Answer
  of_first j low least = inr (
    refusal.PathRange j least.0.0,
    record {
      element = low;
      long = least.0.1.0;
      first_element = λ i other path less h. least.1 i less (first_bit i other (path, h));
      first_bit = λ other path less h. least.0.1.1 other less (path, h);
    },
  )

  short_if : ((j : ℕ) → j < length design.elements → FirstBit j → ⊥) → ArePathsShort design
  short_if none j bit path low h = by_lt_z MOST_DELAY (greatest_delay design.arcs path)
      (λ (more : MOST_DELAY <ℤ greatest_delay design.arcs path). absurd (none j low (first_bit j bit (path, (h, more)))))
      (λ (less : greatest_delay design.arcs path ≤ℤ MOST_DELAY). less)

  of_short : ArePathsShort design → (pairs : List Pair) → ArePairs design pairs → Answer
  of_short short pairs are = ⊎_elim
      (λ (many : most.pairs < length pairs). inr (refusal.Limit kind.Pairs (min (length pairs) MOST_TOLD), (short, (pairs, are, many, refl))))
      (λ (few : length pairs ≤ most.pairs). inl (pairs, record { ordered = is_order; extremes = are; few = omega (arith, few, limits.pairs); short = short }, few))
      (cases_lt most.pairs (length pairs))

  answer : Answer
  answer = ⊎_elim
      (λ (found : (j : ℕ) × (j < length design.elements) × IsLeast FirstBit j). of_first found.0 found.1 found.2)
      (λ (none : (j : ℕ) → j < length design.elements → FirstBit j → ⊥).
      let pairs = pairs_exist_lem design order is_order in
      of_short (short_if none) pairs.0 pairs.1)
      (least_below FirstBit leaves_long (length design.elements))

pub ordered_designs_have_systems_or_refusals_lem : OrderedDesignsHaveSystemsOrRefusals
ordered_designs_have_systems_or_refusals_lem most limits design order is_order = answer most limits design order is_order
