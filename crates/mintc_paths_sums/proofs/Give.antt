-- Sums that are held at places.
use Rattle.std.proofs.Common.{◌≡◌, ◌≢◌, ◌<◌, ◌+◌, ◌-◌, ◌++◌, ◌∷◌, [], ℕ, List, length, get_or, set, take, replicate, arith, ap, ◌∙◌, sym, subst, length-set, get_or-set_same, get_or-set_other}
use Rattle.std.proofs.lemmas.List.{length-append, get_or_append_left, get_or-replicate, get_or_default, get_or_past, length-replicate, get_or-map}
use Rattle.std.proofs.Math.ListN.{length-map}
use Rattle.std.proofs.Math.Seq.{get_or-append_seam}
use Rattle.std.specs.Int.{int_max, int_min}
use Rattle.mintc_lanes.specs.Lanes.{AreJoined}
use Rattle.mintc_timing.specs.declared.parts.TimingArc.{TimingArc}
use Rattle.mintc_paths_sums.specs.declared.sums.Sums.{Sums}
use Rattle.mintc_paths_sums.specs.declared.sums.TheConstants.{NO_SUMS}
use Rattle.mintc_paths_sums.specs.SparseRows.{place_at, places_of, AreHeld}
use Rattle.mintc_paths_sums.specs.Sums.{sums_at, no_sums, IsBounded}
use Rattle.mintc_paths_sums.specs.Placed.{placed}
use Rattle.mintc_paths_sums.proofs.SharedPlaced.{length-placed, placed_at, placed_past}

-- the place of a row, by its number
pub place_is : (base : ℕ) (numbers : List ℕ) (row : ℕ) → place_at (places_of base numbers) row ≡ get_or numbers row 0 - base
place_is base numbers row = grind (arith, get_or-map, get_or_past, length-map)

pub length-places : (base : ℕ) (numbers : List ℕ) → length (places_of base numbers) ≡ length numbers
length-places base numbers = length-map numbers (λ (number : ℕ). number - base)

-- where the sums at the place of each row are the same, those of the rows are
placed_same : (places olds : List ℕ) (new old : List Sums) → length places ≡ length olds → (row : ℕ) →
    (row < length places → sums_at new (place_at places row) ≡ sums_at old (place_at olds row)) → sums_at (placed places new) row ≡ sums_at (placed olds old) row
placed_same places olds new old count row same = grind (arith, placed_at, placed_past)

-- what the sums in a row become, along an arc that leaves another one
pub record IsJoined (arc : TimingArc) (to from new : Sums) : Type 0 where
  pub greatest : AreJoined int_max to.greatest from.greatest arc.max new.greatest
  pub least : AreJoined int_min to.least from.least arc.min new.least
  pub bounded : (most : ℕ) → IsBounded most from → IsBounded most to → IsBounded (most + 1000000000) new

-- and what the rows hold then
pub record IsJoinedOne (arc : TimingArc) (old new : List Sums) : Type 0 where
  pub count : length new ≡ length old
  pub others : (row : ℕ) → row ≢ arc.to → sums_at new row ≡ sums_at old row
  pub joined : IsJoined arc (sums_at old arc.to) (sums_at old arc.from) (sums_at new arc.to)

-- The rows hold at these places what they are seen to hold.
pub record Holds (places : List ℕ) (sums old : List Sums) : Type 0 where
  pub held : AreHeld places sums
  pub kept : (other : ℕ) → sums_at (placed places sums) other ≡ sums_at old other
  pub count : length places ≡ length old

-- also once a row is given a place
pub Holds-given : (base : ℕ) (numbers given : List ℕ) (sums more old : List Sums) → placed (places_of base numbers) sums ≡ old → AreHeld (places_of base given) more →
    ((other : ℕ) → sums_at (placed (places_of base given) more) other ≡ sums_at (placed (places_of base numbers) sums) other) → length given ≡ length numbers → Holds (places_of base given) more old
Holds-given base numbers given sums more old view_is held kept count = record {
  held = held;
  kept = λ other. kept other ∙ ap (λ (v : List Sums). sums_at v other) view_is;
  count = omega (arith, length-places base given, length-places base numbers, length-placed (places_of base numbers) sums, ap (λ (v : List Sums). length v) view_is);
}

module _ {places : List ℕ} {sums old : List Sums} (h : Holds places sums old) where
  -- what is read at a row's place
  pub read_at : (row at : ℕ) (x : Sums) → row < length old → at ≡ place_at places row → x ≡ get_or sums at x → x ≡ sums_at old row
  read_at row at x low is x_is =
      x_is ∙ get_or_default sums at x no_sums (omega (arith, h.held.below row)) ∙ ap (λ k. sums_at sums k) is ∙ sym (placed_at places sums row (omega (arith, h.count))) ∙ h.kept row

  pub held_none : (row : ℕ) → row < length old → place_at places row ≡ 0 → NO_SUMS ≡ sums_at old row
  held_none row low none = sym h.held.none ∙ ap (λ k. sums_at sums k) (sym none) ∙ sym (placed_at places sums row (omega (arith, h.count))) ∙ h.kept row

  -- What is written at a row's place the row holds then.
  module _ (row place : ℕ) (inside : row < length old) (is : place ≡ place_at places row) (some : place ≢ 0) (new : Sums) where
    pub put_own : sums_at (placed places (set sums place new)) row ≡ new
    put_own = placed_at places (set sums place new) row (omega (arith, h.count)) ∙ ap (λ k. sums_at (set sums place new) k) (sym is) ∙ get_or-set_same sums place new no_sums (omega (arith, h.held.below row))

    pub put_others : (other : ℕ) → other ≢ row → sums_at (placed places (set sums place new)) other ≡ sums_at old other
    put_others other ne =
        placed_same places places (set sums place new) sums (omega arith) other
        (λ low. get_or-set_other sums place (place_at places other) new no_sums (λ e. some (is ∙ h.held.apart row other (λ same. ne (sym same)) (sym is ∙ sym e))))
        ∙ h.kept other

  pub joined_at : (arc : TimingArc) (place : ℕ) (to from new : Sums) → arc.to < length old → place ≡ place_at places arc.to → place ≢ 0 → to ≡ sums_at old arc.to → from ≡ sums_at old arc.from →
      IsJoined arc to from new → IsJoinedOne arc old (placed places (set sums place new))
  joined_at arc place to from new inside is some to_is from_is g = record {
    count = length-placed places (set sums place new) ∙ h.count;
    others = put_others arc.to place inside is some new;
    joined = rw (put_own arc.to place inside is some new, ← to_is, ← from_is) g;
  }

-- a row without a place gets the next one
module _ (base : ℕ) (numbers : List ℕ) (sums : List Sums) (row : ℕ) (held : AreHeld (places_of base numbers) sums) (inside : row < length numbers) (none : place_at (places_of base numbers) row ≡ 0) where
  abbrev places : List ℕ
  places = places_of base numbers

  abbrev given : List ℕ
  given = places_of base (set numbers row (base + length sums))

  abbrev more : List Sums
  more = sums ++ NO_SUMS ∷ []

  pub given_own : place_at given row ≡ length sums
  given_own = omega (arith, place_is base (set numbers row (base + length sums)) row, get_or-set_same numbers row (base + length sums) 0 inside)

  count : length given ≡ length places
  count = omega (arith, length-places base numbers, length-places base (set numbers row (base + length sums)), length-set {A = ℕ} numbers row (base + length sums))

  given_other : (other : ℕ) → other ≢ row → place_at given other ≡ place_at places other
  given_other other ne = place_is base (set numbers row (base + length sums)) other ∙ ap (λ k. k - base) (get_or-set_other numbers row other (base + length sums) 0 ne) ∙ sym (place_is base numbers other)

  more_kept : (place : ℕ) → place < length sums → sums_at more place ≡ sums_at sums place
  more_kept place low = get_or_append_left sums (NO_SUMS ∷ []) no_sums place low

  pub given_kept : (other : ℕ) → sums_at (placed given more) other ≡ sums_at (placed places sums) other
  given_kept other = placed_same given places more sums count other (λ low. grind (arith, given_own, given_other, held.none, held.below, more_kept, get_or-append_seam))

  apart_from_own : (other : ℕ) → other ≢ row → place_at given other ≢ place_at given row
  apart_from_own other ne e = omega (arith, held.below other, given_other other ne, given_own)

  pub given_all : AreHeld given more
  given_all = record {
    none = more_kept 0 (omega (arith, held.below 0)) ∙ held.none;
    below = λ other. grind (arith, given_own, given_other other, held.below other, length-append sums (NO_SUMS ∷ []));
    apart = λ one other ne same. grind (arith, apart_from_own one, apart_from_own other, given_other one, given_other other, held.apart one other);
  }

-- where no row has a place, there are no sums
module _ (places : List ℕ) (sums : List Sums) (off : (row : ℕ) → place_at places row ≡ 0) (none : sums_at sums 0 ≡ NO_SUMS) where
  pub placed_none : (row : ℕ) → row < length places → sums_at (placed places sums) row ≡ NO_SUMS
  placed_none row low = placed_at places sums row low ∙ ap (λ k. sums_at sums k) (off row) ∙ none

  pub AreHeld_none : 0 < length sums → AreHeld places sums
  AreHeld_none some = record { none = none; below = λ row. subst (λ k. k < length sums) (sym (off row)) some; apart = λ row other ne same. off row }

pub all_zero : (count : ℕ) (numbers : List ℕ) → numbers ≡ replicate count 0 → (row : ℕ) → place_at (places_of 0 numbers) row ≡ 0
all_zero count numbers same row = grind (arith, same, place_is 0 numbers row, get_or-replicate {A = ℕ} count row 0 0, get_or_past {X = ℕ} (replicate count 0) row 0, length-replicate {A = ℕ} count 0)

-- a base above the numbers leaves no places
pub none_above : (base next : ℕ) (numbers : List ℕ) (sums : List Sums) → AreHeld (places_of base numbers) sums → next ≡ base + (length sums - 1) →
    (row : ℕ) → place_at (places_of next numbers) row ≡ 0
none_above base next numbers sums held is row = omega (arith, place_is next numbers row, place_is base numbers row, held.below row)

-- a list of sums without all but the first
pub first_alone : (sums : List Sums) → sums_at sums 0 ≡ NO_SUMS → 0 < length sums → (sums_at (take 1 sums) 0 ≡ NO_SUMS) × (length (take 1 sums) ≡ 1)
first_alone [] none some = absurd (omega arith)
first_alone (x ∷ xs) none some = (none, omega arith)
