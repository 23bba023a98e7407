-- Ways back of many steps.
use Rattle.std.proofs.Common.{◌≡◌, ◌<◌, ◌≤◌, ◌+◌, ℕ, zero, suc, Bool, not, cond, List, length, slice_index_or, map, Option, Some, None, refl, sym, ap, ◌∙◌, subst, arith}
use Rattle.std.specs.List.{range_with_len}
use Rattle.std.proofs.lemmas.List.{length-map, get_or-map}
use Rattle.std.proofs.lemmas.List.FromFn.{length-range_with_len, get_or-map-range_with_len}
use Rattle.std.proofs.lemmas.List.Elements.{All-map, All-weaker, All-get_or}
use Rattle.mintc_timing.proofs.SharedMembers.{All-range}
use Rattle.mintc_annotate.specs.declared.searching.Drive.{Drive}
use Rattle.mintc_annotate.specs.declared.searching.Spot.{Spot}
use Rattle.mintc_annotate.specs.declared.searching.Jump.{Jump}
use Rattle.mintc_annotate.specs.Phases.{driver_of, spot, turned, back, EndsAt}
use Rattle.mintc_annotate.specs.Searches.{AreDrivers, AreJumps, stepped, onward, no_jump, first_jump, spot_after, doubled_jump}
use Rattle.mintc_annotate.proofs.SearchLaws.{After, never_ends, some_differs, found_in}

-- some steps and then others
onward_more : (ds : List Drive) (n m : ℕ) (s : Spot) → onward ds (n + m) s ≡ onward ds m (onward ds n s)
onward_more ds zero m s = let e : 0 + m ≡ m = omega arith in ap (λ (k : ℕ). onward ds k s) e
onward_more ds (suc n) m s = let e : suc n + m ≡ suc (n + m) = omega arith in ap (λ (k : ℕ). onward ds k s) e ∙ onward_more ds n m (stepped (driver_of ds s.bit) s)

-- nothing drives a spot: it stays
onward_stays : (ds : List Drive) (n : ℕ) (s : Spot) → driver_of ds s.bit ≡ None → onward ds n s ≡ s
onward_stays ds zero s none = refl
onward_stays ds (suc n) s none = ap (λ (o : Option Drive). onward ds n (stepped o s)) none ∙ onward_stays ds n s none

-- where nothing drives the spot that is reached, the search ends there
ends_if : (ds : List Drive) (n : ℕ) (s : Spot) (o : Option Drive) → driver_of ds s.bit ≡ o → ((d : Drive) → o ≡ Some d → (m : ℕ) × EndsAt ds m (back d s) (onward ds n (back d s))) →
    (m : ℕ) × EndsAt ds m s (onward ds n (stepped o s))
ends_if ds n s None is more = (0, (is, sym (onward_stays ds n s is)))
ends_if ds n s (Some d) is more = let rest = more d refl in (suc rest.0, (d, is, rest.1))

pub ends_there : (ds : List Drive) (n : ℕ) (s : Spot) → driver_of ds (onward ds n s).bit ≡ None → (m : ℕ) × EndsAt ds m s (onward ds n s)
ends_there ds zero s none = (0, (none, refl))
ends_there ds (suc n) s none =
    ends_if ds n s (driver_of ds s.bit) refl (λ d is. ends_there ds n (back d s) (ap (λ (o : Option Drive). driver_of ds (onward ds n (stepped o s)).bit) (sym is) ∙ none))

-- where something drives it, each step led on
led_if : (ds : List Drive) (n : ℕ) (s : Spot) (d : Drive) (o : Option Drive) → driver_of ds s.bit ≡ o → driver_of ds (onward ds n (stepped o s)).bit ≡ Some d →
    ((e : Drive) → o ≡ Some e → After ds n (back e s) (onward ds n (back e s))) → After ds (suc n) s (onward ds n (stepped o s))
led_if ds n s d None is driven more =
    absurd (some_differs (driver_of ds s.bit) d is (ap (λ (t : Spot). driver_of ds t.bit) (sym (onward_stays ds n s is)) ∙ driven))
led_if ds n s d (Some e) is driven more = (e, is, more e refl)

pub led_on : (ds : List Drive) (n : ℕ) (s : Spot) (d : Drive) → driver_of ds (onward ds n s).bit ≡ Some d → After ds n s (onward ds n s)
led_on ds zero s d driven = refl
led_on ds (suc n) s d driven =
    led_if ds n s d (driver_of ds s.bit) refl driven (λ e is. led_on ds n (back e s) d (ap (λ (o : Option Drive). driver_of ds (onward ds n (stepped o s)).bit) (sym is) ∙ driven))

-- ---- the ways of one step
first_is : (o : Option Drive) (b : ℕ) (high : Bool) → stepped o (spot b high) ≡ spot_after (first_jump b o) high
first_is o b high = grind arith

first_within : (count b : ℕ) (o : Option Drive) → ((d : Drive) → o ≡ Some d → d.from < count) → b < count → (first_jump b o).bit < count
first_within count b None inside less = less
first_within count b (Some d) inside less = inside d refl

-- the ways of one step back from each bit
pub first_are : (ds : List Drive) (table : List (Option Drive)) → AreDrivers ds (length table) table → AreJumps ds 1 (length table) (map (λ b. first_jump b (slice_index_or table b None)) (range_with_len 0 (length table)))
first_are ds table drivers = record {
  size = length-map (range_with_len 0 (length table)) (λ b. first_jump b (slice_index_or table b None)) ∙ length-range_with_len 0 (length table);
  within = All-map (λ j. j.bit < length table) (λ b. first_jump b (slice_index_or table b None)) (range_with_len 0 (length table))
      (All-range (λ b. (first_jump b (slice_index_or table b None)).bit < length table) 0 (length table) (λ b low less.
      first_within (length table) b (slice_index_or table b None) (λ d is. (found_in (λ e. (e.to < length table) × (e.from < length table)) ds b d drivers.within (sym (drivers.each b (omega (arith, less))) ∙ is)).1) (omega (arith, less))));
  each = λ b high less.
      ap (λ (o : Option Drive). stepped o (spot b high)) (sym (drivers.each b less)) ∙ first_is (slice_index_or table b None) b high
      ∙ ap (λ (j : Jump). spot_after j high) (sym (get_or-map-range_with_len (λ b. first_jump b (slice_index_or table b None)) 0 (length table) b b no_jump less (omega arith)));
}

-- one way and then another, at a level
turns_both : (a b high : Bool) (bit : ℕ) → spot bit (turned b (turned a high)) ≡ spot bit (turned (cond a (not b) b) high)
turns_both a b high bit = grind arith

-- the ways of twice as many steps
pub doubled_are : (ds : List Drive) (n count : ℕ) (jumps : List Jump) → AreJumps ds n count jumps → AreJumps ds (n + n) count (map (doubled_jump jumps) jumps)
doubled_are ds n count jumps are = record {
  size = length-map jumps (doubled_jump jumps) ∙ are.size;
  within = All-map (λ j. j.bit < count) (doubled_jump jumps) jumps
      (All-weaker (λ j. j.bit < count) (λ j. (doubled_jump jumps j).bit < count) (λ j less. All-get_or (λ k. k.bit < count) jumps j.bit no_jump (omega (arith, less, are.size)) are.within) jumps are.within);
  each = λ b high less.
      let here : b < length jumps = omega (arith, less, are.size) in
      let one : Jump = slice_index_or jumps b no_jump in
      let inside : one.bit < count = All-get_or (λ k. k.bit < count) jumps b no_jump here are.within in
      onward_more ds n n (spot b high) ∙ ap (onward ds n) (are.each b high less) ∙ are.each one.bit (turned one.turns high) inside
      ∙ turns_both one.turns (slice_index_or jumps one.bit no_jump).turns high (slice_index_or jumps one.bit no_jump).bit
      ∙ ap (λ (j : Jump). spot_after j high) (sym (get_or-map (doubled_jump jumps) jumps b no_jump no_jump here));
}

-- ways that lead nowhere else when they are taken twice are those of as many steps as one likes
pub stays_long : (ds : List Drive) (more n count : ℕ) (jumps : List Jump) → 1 ≤ n → map (doubled_jump jumps) jumps ≡ jumps → AreJumps ds n count jumps →
    (m : ℕ) × (n + more ≤ m) × AreJumps ds m count jumps
stays_long ds zero n count jumps some still are = (n, omega arith, are)
stays_long ds (suc more) n count jumps some still are =
    let rest = stays_long ds more (n + n) count jumps (omega (arith, some)) still (subst (λ (v : List Jump). AreJumps ds (n + n) count v) still (doubled_are ds n count jumps are)) in
    (rest.0, omega (arith, some, rest.1), rest.2)

-- where the ways of so many steps lead, a search that ends is at its end
pub ended : (ds : List Drive) (steps : ℕ) (table : List (Option Drive)) (jumps : List Jump) (start end : Spot) → AreDrivers ds (length table) table → AreJumps ds steps (length table) jumps → length table ≤ steps →
    start.bit < length table → end ≡ spot_after (slice_index_or jumps start.bit no_jump) start.high → slice_index_or table end.bit None ≡ None → (n : ℕ) × EndsAt ds n start end
ended ds steps table jumps start end drivers are many within is none =
    let reached : onward ds steps start ≡ end = are.each start.bit start.high within ∙ sym is in
    let inside : end.bit < length table = subst (λ (s : Spot). s.bit < length table) (sym is) (All-get_or (λ k. k.bit < length table) jumps start.bit no_jump (omega (arith, within, are.size)) are.within) in
    let here : driver_of ds end.bit ≡ None = sym (drivers.each end.bit inside) ∙ none in
    let found = ends_there ds steps start (ap (λ (s : Spot). driver_of ds s.bit) reached ∙ here) in
    (found.0, subst (λ (s : Spot). EndsAt ds found.0 start s) reached found.1)

pub goes_round : (ds : List Drive) (steps : ℕ) (table : List (Option Drive)) (jumps : List Jump) (start end : Spot) (d : Drive) → AreDrivers ds (length table) table → AreJumps ds steps (length table) jumps → length table ≤ steps →
    start.bit < length table → end ≡ spot_after (slice_index_or jumps start.bit no_jump) start.high → slice_index_or table end.bit None ≡ Some d → (n : ℕ) (other : Spot) → EndsAt ds n start other → ⊥
goes_round ds steps table jumps start end d drivers are many within is some =
    let reached : onward ds steps start ≡ end = are.each start.bit start.high within ∙ sym is in
    let inside : end.bit < length table = subst (λ (s : Spot). s.bit < length table) (sym is) (All-get_or (λ k. k.bit < length table) jumps start.bit no_jump (omega (arith, within, are.size)) are.within) in
    let here : driver_of ds end.bit ≡ Some d = sym (drivers.each end.bit inside) ∙ some in
    never_ends ds (length table) steps start (onward ds steps start) drivers.within within many (led_on ds steps start d (ap (λ (s : Spot). driver_of ds s.bit) reached ∙ here))
