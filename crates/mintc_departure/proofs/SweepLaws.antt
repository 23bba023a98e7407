-- sweeps over stale elements
use Rattle.std.proofs.Common.{◌≡◌, ◌≢◌, ℕ, suc, ◌+◌, ◌<◌, ◌≤◌, ◌==◌, ℤ, pos, ◌+ℤ◌, ◌≤ℤ◌, ◌<ℤ◌, Bool, true, false, cond, List, [], ◌∷◌, length, get_or, set, map, arith, refl, sym, ap, ◌∙◌, subst, inl, inr, ⊎_elim, eqb-true, length-set, get_or-set_same, get_or-set_other}
use Rattle.std.proofs.lemmas.Int.{ints, by_lt_z}
use Rattle.std.proofs.lemmas.Bool.{cases_eq, cases_lt}
use Rattle.std.specs.List.{filter}
use Rattle.mintc_bitset.specs.BitSet.{IsIn}
use Rattle.mintc_timing.specs.declared.parts.Pair.{Pair}
use Rattle.mintc_timing.specs.declared.clocking.Schedule.{Schedule}
use Rattle.mintc_timing.specs.Design.{Timing, element_at, element_count, pair_at, no_pair}
use Rattle.mintc_timing.specs.Departures.{departure, early_arrival, early_opening, early_departure, AreEarly, AreLate}
use Rattle.mintc_timing.specs.Extremes.{greater_of, least_of}
use Rattle.mintc_departure.specs.Clocked.{IsClocked}
use Rattle.mintc_departure.specs.Rounds.{AreRising, AreSwept}
use Rattle.mintc_departure.specs.Travels.{early_travel}
use Rattle.mintc_departure.proofs.EarlyLaws.{early-arrival-is, rising-part}

-- Two functions that agree on what passes give the same lists.
module _ (f g : Pair → ℤ) (test : Pair → Bool) where
  same-step : (p : Pair) (rest : List Pair) (b : Bool) → (b ≡ true → f p ≡ g p) → map f rest ≡ map g rest → map f (cond b (p ∷ rest) rest) ≡ map g (cond b (p ∷ rest) rest)
  same-step p rest true h e = ap (λ x. x ∷ map f rest) (h refl) ∙ ap (λ xs. g p ∷ xs) e
  same-step p rest false h e = e

  same-passing : (ps : List Pair) → ((m : ℕ) → m < length ps → test (get_or ps m no_pair) ≡ true → f (get_or ps m no_pair) ≡ g (get_or ps m no_pair)) →
      map f (filter test ps) ≡ map g (filter test ps)
  same-passing [] h = refl
  same-passing (p ∷ ps) h = same-step p (filter test ps) (test p) (λ e. h 0 (omega arith) e) (same-passing ps (λ m lt e. h (suc m) (omega arith) e))

pub strictly : (x y : ℤ) → x ≤ℤ y → (x ≡ y → ⊥) → x <ℤ y
strictly x y h ne = by_lt_z x y (λ k. k) (λ k. absurd (ne (omega (arith, ints))))

module _ (t : Timing) (s : Schedule) where
  -- A change of one departure changes nothing where no pair leads from there.
  unmoved : (d e : List ℤ) (n l : ℕ) → ((k : ℕ) → k ≢ n → departure e k ≡ departure d k) →
      ((m : ℕ) → m < length t.pairs → (pair_at t m).to ≡ l → (pair_at t m).from ≢ n) → early_departure t s e l ≡ early_departure t s d l
  unmoved d e n l others none =
      ap (λ (xs : List ℤ). cond (element_at t.flat l).flop (pos 0) (greater_of (early_opening t.flat s l) (least_of xs)))
      (same-passing (early_arrival t.flat s e) (early_arrival t.flat s d) (λ (p : Pair). p.to == l) t.pairs
      (λ m lt is.
      early-arrival-is t s e (pair_at t m)
      ∙ ap (λ z. z +ℤ early_travel t.flat s (pair_at t m)) (others (pair_at t m).from (none m lt (eqb-true _ _ is)))
      ∙ sym (early-arrival-is t s d (pair_at t m))))

module _ (t : Timing) (s : Schedule) (late : List ℤ) where
  -- An element that departs as before is no more stale.
  pub swept-still : (d : List ℤ) (n : ℕ) (old new : List ℕ) → AreSwept t s late d old → departure d n ≡ early_departure t s d n → length new ≡ length old →
      ((k : ℕ) → k ≢ n → IsIn old k → IsIn new k) → AreSwept t s late d new
  swept-still d n old new swept is count others =
      let places = swept.places in
      let few = swept.few in
      record {
        rising = swept.rising;
        met = λ l h out. ⊎_elim
            (λ (e : l ≡ n). subst (λ (k : ℕ). departure d k ≡ early_departure t s d k) (sym e) is)
            (λ ne. swept.met l h (λ held. out (others l ne held)))
            (cases_eq l n);
        places = rw count places;
        few = rw count few;
      }

  pub written-above : (d e : List ℤ) (n : ℕ) → AreRising t s late d → n < element_count t.flat → e ≡ set d n (early_departure t s d n) → departure d n ≢ early_departure t s d n →
      departure d n <ℤ departure e n
  written-above d e n rising inside write ne =
      rw (write, get_or-set_same d n (early_departure t s d n) (pos 0) (rw rising.count inside)) (strictly _ _ (rising.rises n inside) ne)

  -- The departures are the early ones where none is stale.
  pub swept-last : (d : List ℤ) (stale : List ℕ) → AreSwept t s late d stale → ((l : ℕ) → l < element_count t.flat → IsIn stale l → ⊥) → AreEarly t s d
  swept-last d stale swept none = record { exact = record { count = swept.rising.count; each = λ l h. swept.met l h (none l h) }; least = swept.rising.least }

module _ (t : Timing) (s : Schedule) (fits : IsClocked t s)
    (late : List ℤ) (are_late : AreLate t s late) where
  -- One that departs later makes those stale that pairs lead to from there.
  pub swept-more : (d e : List ℤ) (n : ℕ) (old mid new : List ℕ) → AreSwept t s late d old → n < element_count t.flat → e ≡ set d n (early_departure t s d n) →
      length mid ≡ length old → ((k : ℕ) → k ≢ n → IsIn old k → IsIn mid k) → length new ≡ length mid → ((k : ℕ) → IsIn mid k → IsIn new k) →
      ((m : ℕ) → m < length t.pairs → (pair_at t m).from ≡ n → IsIn new (pair_at t m).to) → AreSwept t s late e new
  swept-more d e n old mid new swept inside write mid_count others new_count kept woken =
      let places = swept.places in
      let few = swept.few in
      let count = new_count ∙ mid_count in
      record {
        rising = rising-part t s fits late are_late d e swept.rising (ap length write ∙ length-set d n _ ∙ swept.rising.count)
            (λ l h. ⊎_elim (λ is. inl (at_place l is)) (λ ne. inr (elsewhere l ne)) (cases_eq l n));
        met = λ l h out.
            let same = unmoved t s d e n l elsewhere (λ m lt to from. out (subst (λ k. IsIn new k) to (woken m lt from))) in
            ⊎_elim
            (λ is. at_place l is ∙ sym same)
            (λ ne. elsewhere l ne ∙ swept.met l h (λ held. out (kept l (others l ne held))) ∙ sym same)
            (cases_eq l n);
        places = rw count places;
        few = rw count few;
      }
    where
      at_place : (l : ℕ) → l ≡ n → departure e l ≡ early_departure t s d l
      at_place l is = rw (is, write) (get_or-set_same d n (early_departure t s d n) (pos 0) (rw swept.rising.count inside))

      elsewhere : (k : ℕ) → k ≢ n → departure e k ≡ departure d k
      elsewhere k ne = ap (λ (xs : List ℤ). departure xs k) write ∙ get_or-set_other d n k (early_departure t s d n) (pos 0) ne

-- None is stale before the next stale place where an element is no more stale, and none was before it.
pub none-before : (at next : ℕ) (old new : List ℕ) → ((k : ℕ) → k < at → IsIn old k → ⊥) → (IsIn new at → ⊥) → ((k : ℕ) → IsIn new k → IsIn old k) →
    ((k : ℕ) → at + 1 ≤ k → k < next → IsIn new k → ⊥) → (k : ℕ) → k < next → IsIn new k → ⊥
none-before at next old new before out only later k lt held =
    ⊎_elim
    (λ below. before k below (only k held))
    (λ past. ⊎_elim
    (λ (is : k ≡ at). out (subst (λ j. IsIn new j) is held))
    (λ ne. later k (omega arith) lt held)
    (cases_eq k at))
    (cases_lt k at)
