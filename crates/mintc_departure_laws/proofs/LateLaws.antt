-- Late departures, or a loop. The rounds rise from where no data reaches an element. Where they still rise after a
-- round for each element, the way back along the pairs that made them rise leaves some element twice.
use Rattle.std.proofs.Common.{◌≡◌, ◌≢◌, ℕ, zero, suc, ◌+◌, ◌<◌, ◌≤◌, ℤ, pos, ◌+ℤ◌, ◌-ℤ◌, ◌*ℤ◌, ◌≤ℤ◌, ◌<ℤ◌, Bool, true, false, cond, List, [], ◌∷◌, ◌++◌, length, map, arith, refl, sym, ap, ◌∙◌, subst, Option, ◌⊎◌, inl, inr, ⊎_elim}
use Rattle.std.proofs.lemmas.Int.{ints, clamps}
use Rattle.std.proofs.lemmas.Bool.{cases_Bool, cases_eq}
use Rattle.mintc_graph.specs.Rings.{total, Joins}
use Rattle.mintc_timing.specs.declared.parts.Pair.{Pair}
use Rattle.mintc_timing.specs.declared.clocking.Schedule.{Schedule}
use Rattle.mintc_timing.specs.Design.{Timing, element_at, element_count, pair_at, no_pair}
use Rattle.mintc_timing.specs.Departures.{departure, into, late_arrival, late_departure, late_opening, AreLate}
use Rattle.mintc_timing.specs.Extremes.{greater_of, greatest_of}
use Rattle.mintc_timing.specs.Paths.{HasEnds}
use Rattle.mintc_timing.specs.Violations.{loop_amount}
use Rattle.mintc_timing.proofs.SharedArrivals.{latest, ArrivesBy, latest-opens, latest-arrives, latest-attained}
use Rattle.mintc_timing.proofs.SharedDepartureLaws.{late_departure-latch, late_departure-flop}
use Rattle.mintc_departure.specs.Networks.{late_start_of, late_travel}
use Rattle.mintc_departure.proofs.SharedLesser.{IsNoLater, greater-mono}
use Rattle.mintc_departure_laws.specs.Existence.{HasSomeLoop, HaveLateOrLoop}
use Rattle.mintc_departure_laws.proofs.Apart.{Every, every-front, every-all, Apart, apart-front, apart-at, few_apart}
use Rattle.mintc_departure_laws.proofs.Rounds.{round, round-count, round-first, round-next, round-rises, round-rises_far, round-below, round-above_start, IsStill, Grows, still-exact, still-or_grows}

greater_of-mono : (x y : ℤ) (o p : Option ℤ) → x ≤ℤ y → IsNoLater o p → greater_of x o ≤ℤ greater_of y p
greater_of-mono x y o p h k = grind (arith, ints, clamps)

-- the greatest of greater numbers is no less
greatest-mono : {X : Type 0} (f g : X → ℤ) → ((x : X) → f x ≤ℤ g x) → (xs : List X) → IsNoLater (greatest_of (map f xs)) (greatest_of (map g xs))
greatest-mono f g h [] = tt
greatest-mono f g h (x ∷ xs) = greater_of-mono (f x) (g x) (greatest_of (map f xs)) (greatest_of (map g xs)) (h x) (greatest-mono f g h xs)

-- Sums of numbers in order, as the steps below use them.
not_risen : (x y z : ℤ) → x ≡ z → y ≡ z → x <ℤ y → ⊥
not_risen x y z p q h = omega (arith, ints)

not_opened : (new old top opening start : ℤ) → new ≡ top → top ≡ opening → start ≡ opening → start ≤ℤ old → old <ℤ new → ⊥
not_opened new old top opening start a b c d e = omega (arith, ints)

rose_before : (from_old from_new travel arrival top old new : ℤ) → arrival ≡ from_old +ℤ travel → arrival ≤ℤ top → old ≡ top → from_new +ℤ travel ≡ new → old <ℤ new → from_old <ℤ from_new
rose_before from_old from_new travel arrival top old new a b c d e = omega (arith, ints)

joined : (x w y rest z : ℤ) → x +ℤ w ≡ y → y +ℤ rest ≡ z → x +ℤ (w +ℤ rest) ≡ z
joined x w y rest z a b = omega (arith, ints)

gained : (x w y rest z old : ℤ) → x +ℤ w ≡ y → y +ℤ rest ≡ z → x ≤ℤ old → old <ℤ z → pos 0 <ℤ (w +ℤ rest)
gained x w y rest z old a b c d = omega (arith, ints)

with_nothing : (x : ℤ) → x +ℤ pos 0 ≡ x
with_nothing x = omega (arith, ints)

moved : (x y travel : ℤ) → x ≤ℤ y → (x +ℤ travel) ≤ℤ (y +ℤ travel)
moved x y travel h = omega (arith, ints)

module _ (t : Timing) (s : Schedule) where
  arrival-is : (d : List ℤ) (p : Pair) → late_arrival t.flat s d p ≡ departure d p.from +ℤ late_travel t.flat s p
  arrival-is d p = omega (arith, ints)

  arrival-mono : (d e : List ℤ) (p : Pair) → departure d p.from ≤ℤ departure e p.from → late_arrival t.flat s d p ≤ℤ late_arrival t.flat s e p
  arrival-mono d e p h = rw (arrival-is d p, arrival-is e p) (moved (departure d p.from) (departure e p.from) (late_travel t.flat s p) h)

  -- Departures that are nowhere later ask for departures that are nowhere later,
  late-mono : (d e : List ℤ) → ((l : ℕ) → departure d l ≤ℤ departure e l) → (l : ℕ) → late_departure t s d l ≤ℤ late_departure t s e l
  late-mono d e h l =
      ⊎_elim
      (λ flop. rw flop (omega (arith, ints)))
      (λ latch. rw latch (greater-mono (late_opening t.flat s l) _ _
      (greatest-mono (late_arrival t.flat s d) (late_arrival t.flat s e) (λ p. arrival-mono d e p (h p.from)) (into t l))))
      (cases_Bool (element_at t.flat l).flop)

  -- and any ask for at least those where no data reaches an element.
  pub start-low : (d : List ℤ) (l : ℕ) → late_start_of t.flat s l ≤ℤ late_departure t s d l
  start-low d l =
      ⊎_elim
      (λ flop. rw flop (omega (arith, ints)))
      (λ latch. rw latch (latest-opens t s d l))
      (cases_Bool (element_at t.flat l).flop)

  abbrev count : ℕ
  count = element_count t.flat

  -- the late departures after so many rounds, and that of one element
  abbrev after : ℕ → List ℤ
  after k = round count (late_start_of t.flat s) (late_departure t s) k

  abbrev value : ℕ → ℕ → ℤ
  value k l = departure (after k) l

  next : (k l : ℕ) → l < count → value (suc k) l ≡ late_departure t s (after k) l
  next k l h = round-next count (late_start_of t.flat s) (late_departure t s) k l h

  -- The departures of a round that the next one leaves are the late ones.
  late-settled : (k : ℕ) → IsStill count (late_start_of t.flat s) (late_departure t s) start-low late-mono k → AreLate t s (after k)
  late-settled k still = record {
    exact = record {
      count = round-count count (late_start_of t.flat s) (late_departure t s) k;
      each = still-exact count (late_start_of t.flat s) (late_departure t s) start-low late-mono k still;
    };
    least = λ e exact l h. round-below count (late_start_of t.flat s) (late_departure t s) start-low late-mono e exact.count exact.each k l;
  }

  -- An element departs later after round k + 1 than after round k.
  abbrev Rises : ℕ → ℕ → Type 0
  Rises k l = value k l <ℤ value (suc k) l

  flop-still : (k l : ℕ) → l < count → (element_at t.flat l).flop ≡ true → value k l ≡ pos 0
  flop-still zero l h flop =
      round-first count (late_start_of t.flat s) (late_departure t s) l h ∙ ap (λ (b : Bool). cond b (pos 0) (late_opening t.flat s l)) flop
  flop-still (suc k) l h flop = next k l h ∙ late_departure-flop t s (after k) l flop

  rising-latch : (k l : ℕ) → l < count → Rises k l → (element_at t.flat l).flop ≡ false
  rising-latch k l h up =
      ⊎_elim
      (λ (flop : (element_at t.flat l).flop ≡ true). absurd (not_risen (value k l) (value (suc k) l) (pos 0) (flop-still k l h flop) (flop-still (suc k) l h flop) up))
      (λ (latch : (element_at t.flat l).flop ≡ false). latch)
      (cases_Bool (element_at t.flat l).flop)

  latch-is : (k l : ℕ) → l < count → (element_at t.flat l).flop ≡ false → value (suc k) l ≡ latest t s (after k) l
  latch-is k l h latch = next k l h ∙ late_departure-latch t s (after k) l latch

  abbrev from_of : ℕ → ℕ
  from_of m = (pair_at t m).from

  abbrev to_of : ℕ → ℕ
  to_of m = (pair_at t m).to

  abbrev travel_of : ℕ → ℤ
  travel_of m = late_travel t.flat s (pair_at t m)

  -- A pair by which the element's data comes in the next round.
  abbrev Brings : ℕ → ℕ → Type 0
  Brings k l = (m : ℕ) × (m < length t.pairs) × (to_of m ≡ l) × (value k (from_of m) +ℤ travel_of m ≡ value (suc k) l)

  -- What departs later does so by a pair,
  brought : (k l : ℕ) → l < count → Rises k l → Brings k l
  brought k l h up =
      let latch = rising-latch k l h up in
      let is = latch-is k l h latch in
      let start : late_start_of t.flat s l ≡ late_opening t.flat s l = ap (λ (b : Bool). cond b (pos 0) (late_opening t.flat s l)) latch in
      let above = round-above_start count (late_start_of t.flat s) (late_departure t s) start-low late-mono k l h in
      ⊎_elim
      (λ (opens : latest t s (after k) l ≡ late_opening t.flat s l).
      absurd (not_opened (value (suc k) l) (value k l) (latest t s (after k) l) (late_opening t.flat s l) (late_start_of t.flat s l) is opens start above up))
      (λ (by : ArrivesBy t s (after k) l (latest t s (after k) l)).
      (by.0, by.1, by.2, sym (arrival-is (after k) (pair_at t by.0)) ∙ by.3 ∙ sym is))
      (latest-attained t s (after k) l)

  -- from an element that departed later in the round before.
  before : (k l : ℕ) → l < count → Rises (suc k) l → (by : Brings (suc k) l) → Rises k (from_of by.0)
  before k l h up by =
      let latch = rising-latch (suc k) l h up in
      rose_before (value k (from_of by.0)) (value (suc k) (from_of by.0)) (travel_of by.0) (late_arrival t.flat s (after k) (pair_at t by.0)) (latest t s (after k) l) (value (suc k) l) (value (suc (suc k)) l)
      (arrival-is (after k) (pair_at t by.0)) (latest-arrives t s (after k) l by.0 by.1 by.2) (latch-is k l h latch) by.3 up

  -- Pairs in a row, from an element after round k + 1 on, each of which makes its end depart later a round after that.
  abbrev Trail : ℕ → ℕ → List ℕ → Type 0
  Trail k a [] = Unit {0}
  Trail k a (m ∷ ms) =
      (m < length t.pairs) × (from_of m ≡ a) × ((element_at t.flat (from_of m)).flop ≡ false)
      × (value (suc k) a +ℤ travel_of m ≡ value (suc (suc k)) (to_of m)) × Rises (suc k) (to_of m) × Trail (suc k) (to_of m) ms

  abbrev Exists : ℕ → Type 0
  Exists m = m < length t.pairs

  abbrev IsOfLatch : ℕ → Type 0
  IsOfLatch m = (element_at t.flat (from_of m)).flop ≡ false

  trail-exists : (k a : ℕ) (ms : List ℕ) → Trail k a ms → Every Exists ms
  trail-exists k a [] h = tt
  trail-exists k a (m ∷ ms) h = (h.0, trail-exists (suc k) (to_of m) ms h.5)

  trail-latches : (k a : ℕ) (ms : List ℕ) → Trail k a ms → Every IsOfLatch ms
  trail-latches k a [] h = tt
  trail-latches k a (m ∷ ms) h = (h.2, trail-latches (suc k) (to_of m) ms h.5)

  -- The front of a trail, up to where it leaves an element.
  abbrev HasFront : ℕ → ℕ → ℕ → List ℕ → Type 0
  HasFront k a u ms =
      (front : List ℕ) × (back : List ℕ) × (r : ℕ) × (ms ≡ front ++ back) × (k ≤ r) × Joins from_of to_of a front u × Rises r u
      × (value (suc k) a +ℤ total travel_of front ≡ value (suc r) u) × Every (λ j. u ≢ from_of j) front

  seek-on : (k a u m : ℕ) (ms : List ℕ) → Trail k a (m ∷ ms) → u ≢ from_of m →
      HasFront (suc k) (to_of m) u ms ⊎ Every (λ j. u ≢ from_of j) ms → HasFront k a u (m ∷ ms) ⊎ Every (λ j. u ≢ from_of j) (m ∷ ms)
  seek-on k a u m ms trail other (inr none) = inr (other, none)
  seek-on k a u m ms trail other (inl f) =
      let later : k ≤ f.2 = omega (arith, f.4) in
      inl (
        m ∷ f.0,
        f.1,
        f.2,
        ap (λ xs. m ∷ xs) f.3,
        later,
        (trail.1, f.5),
        f.6,
        joined (value (suc k) a) (travel_of m) (value (suc (suc k)) (to_of m)) (total travel_of f.0) (value (suc f.2) u) trail.3 f.7,
        (other, f.8),
      )

  seek : (k a u : ℕ) (ms : List ℕ) → Rises k a → Trail k a ms → HasFront k a u ms ⊎ Every (λ j. u ≢ from_of j) ms
  seek k a u [] up trail = inr tt
  seek k a u (m ∷ ms) up trail =
      ⊎_elim
      (λ (same : u ≡ from_of m).
      let is : a ≡ u = sym trail.1 ∙ sym same in
      let low : k ≤ k = omega arith in
      let none : value (suc k) a +ℤ pos 0 ≡ value (suc k) u = with_nothing (value (suc k) a) ∙ ap (λ (v : ℕ). value (suc k) v) is in
      inl ([], m ∷ ms, k, refl, low, is, subst (Rises k) is up, none, tt))
      (λ (other : u ≢ from_of m). seek-on k a u m ms trail other (seek (suc k) (to_of m) u ms trail.4 trail.5))
      (cases_eq u (from_of m))

  -- The first pair of a trail and the front behind it that leads back to where it leaves are a loop.
  closes : (k m : ℕ) (ms : List ℕ) → Trail k (from_of m) (m ∷ ms) → Apart from_of ms → HasFront (suc k) (to_of m) (from_of m) ms → HasSomeLoop t s
  closes k m ms trail apart f =
      let exist : Every Exists (m ∷ f.0) = (trail.0, every-front Exists f.0 f.1 (subst (Every Exists) f.3 (trail-exists (suc k) (to_of m) ms trail.5))) in
      let latches : Every IsOfLatch (m ∷ f.0) = (trail.2, every-front IsOfLatch f.0 f.1 (subst (Every IsOfLatch) f.3 (trail-latches (suc k) (to_of m) ms trail.5))) in
      let once : Apart from_of (m ∷ f.0) = (f.8, apart-front from_of f.0 f.1 (subst (Apart from_of) f.3 apart)) in
      let far = round-rises_far count (late_start_of t.flat s) (late_departure t s) start-low late-mono (suc k) f.2 (from_of m) f.4 in
      let more : pos 0 <ℤ (travel_of m +ℤ total travel_of f.0) =
      gained (value (suc k) (from_of m)) (travel_of m) (value (suc (suc k)) (to_of m)) (total travel_of f.0) (value (suc f.2) (from_of m)) (value f.2 (from_of m)) trail.3 f.7 far f.6 in (
        m ∷ f.0,
        loop_amount t s (m ∷ f.0),
        record {
          is_loop = record {
            exist = every-all Exists (m ∷ f.0) exist;
            latches = every-all IsOfLatch (m ∷ f.0) latches;
            closed = f.5;
            once = λ i j d lt within. apart-at from_of (m ∷ f.0) once i j d lt within;
          };
          is_amount = refl;
          above = more;
        },
      )

  -- Back along what rises, a round at a time, until an element is left twice.
  climb : HasEnds t → (k a : ℕ) (ms : List ℕ) → a < count → Rises k a → Trail k a ms → Apart from_of ms → count < k + length ms → HasSomeLoop t s
  climb ends zero a ms h up trail apart many =
      let inside : Every (λ m. from_of m < count) ms = exist_inside ms (trail-exists zero a ms trail) in
      let few = few_apart from_of count ms apart inside in
      absurd (omega arith)
    where
      exist_inside : (ms : List ℕ) → Every Exists ms → Every (λ m. from_of m < count) ms
      exist_inside [] h = tt
      exist_inside (m ∷ ms) h = ((ends m no_pair h.0).0, exist_inside ms h.1)
  climb ends (suc k) a ms h up trail apart many =
      let by = brought (suc k) a h up in
      let u = from_of by.0 in
      let rose : Rises k u = before k a h up by in
      let inside : u < count = (ends by.0 no_pair by.1).0 in
      let here : Trail (suc k) (to_of by.0) ms = subst (λ v. Trail (suc k) v ms) (sym by.2) trail in
      let end_rose : Rises (suc k) (to_of by.0) = subst (Rises (suc k)) (sym by.2) up in
      let brings : value (suc k) u +ℤ travel_of by.0 ≡ value (suc (suc k)) (to_of by.0) = by.3 ∙ ap (λ (v : ℕ). value (suc (suc k)) v) (sym by.2) in
      let whole : Trail k u (by.0 ∷ ms) = (by.1, refl, rising-latch k u inside rose, brings, end_rose, here) in
      let longer : count < k + length (by.0 ∷ ms) = omega (arith, many) in
      ⊎_elim
      (λ (front : HasFront (suc k) (to_of by.0) u ms). closes k by.0 ms whole apart front)
      (λ (none : Every (λ j. u ≢ from_of j) ms). climb ends k u (by.0 ∷ ms) inside rose whole (none, apart) longer)
      (seek (suc k) (to_of by.0) u ms end_rose here)

  late_or_loop : HasEnds t → ((late : List ℤ) × AreLate t s late) ⊎ HasSomeLoop t s
  late_or_loop ends =
      let many : count < suc count + 0 = omega arith in
      ⊎_elim
      (λ (still : IsStill count (late_start_of t.flat s) (late_departure t s) start-low late-mono (suc count)). inl (after (suc count), late-settled (suc count) still))
      (λ (grows : Grows count (late_start_of t.flat s) (late_departure t s) start-low late-mono (suc count)).
      inr (climb ends (suc count) grows.0 [] grows.1 grows.2 tt tt many))
      (still-or_grows count (late_start_of t.flat s) (late_departure t s) start-low late-mono (suc count))

pub have_late_or_loop_lem : HaveLateOrLoop
have_late_or_loop_lem t s ends = late_or_loop t s ends
