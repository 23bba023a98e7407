-- Sums along one more arc.
use Rattle.std.proofs.Common.{◌≡◌, ◌≢◌, ℕ, ◌<◌, ◌≤◌, ◌+◌, ◌*◌, max, ℤ, ◌≤ℤ◌, List, length, get_or, arith, refl, ap, ◌∙◌, sym, ⊎_elim, Option, Some, None, subst}
use Rattle.std.specs.Prelude.{IfSome, unsigned_abs}
use Rattle.std.specs.Int.{int_max, int_min}
use Rattle.std.proofs.lemmas.Bool.{cases_eq}
use Rattle.mintc_timing.specs.declared.parts.TimingArc.{TimingArc}
use Rattle.mintc_timing.specs.Paths.{arc_at, output_of}
use Rattle.std.specs.List.{All}
use Rattle.mintc_timing.specs.Design.{no_arc}
use Rattle.mintc_timing.specs.Limits.{IsArc}
use Rattle.mintc_timing.specs.Order.{IsOrder}
use Rattle.mintc_timing.proofs.SharedOrdered.{inside}
use Rattle.mintc_lanes.specs.Lanes.{lane_at, joined, AreJoined, AreWithin}
use Rattle.mintc_paths_sums.specs.declared.sums.Sums.{Sums}
use Rattle.mintc_paths_sums.specs.Sums.{sums_at, IsBounded, IsAlike}
use Rattle.mintc_paths.specs.Among.{IsBest, AtLeast, max_of, min_of}
use Rattle.mintc_paths.specs.Sums.{AreSums}
use Rattle.mintc_paths.proofs.Best.{IsChoiceBy, greatest_choice, least_choice, IsBest-other, IsBest-joined}

pub AreWithin-weaker : (m n : ℕ) (row : List ℤ) → m ≤ n → AreWithin m row → AreWithin n row
AreWithin-weaker m n row h g k below = weaker (lane_at row k) (g k below)
  where
    weaker : (x : Option ℤ) → IfSome x (λ z. unsigned_abs z ≤ m) → IfSome x (λ z. unsigned_abs z ≤ n)
    weaker None h = tt
    weaker (Some z) g = omega arith

pub IsBounded-weaker : (m n : ℕ) (sums : Sums) → m ≤ n → IsBounded m sums → IsBounded n sums
IsBounded-weaker m n sums h g = record { greatest = AreWithin-weaker m n sums.greatest h g.greatest; least = AreWithin-weaker m n sums.least h g.least }

joined_none : (choose : ℤ → ℤ → ℤ) (x y : Option ℤ) (w : ℤ) → joined choose x y w ≡ None → (x ≡ None) × (y ≡ None)
joined_none choose None None w h = (refl, refl)
joined_none choose (Some x) None w h = absurd (cc)
joined_none choose None (Some y) w h = absurd (cc)
joined_none choose (Some x) (Some y) w h = absurd (cc)

none_joined : (choose : ℤ → ℤ → ℤ) (x y : Option ℤ) (w : ℤ) → x ≡ None → y ≡ None → joined choose x y w ≡ None
none_joined choose x y w h g = ap (λ o. joined choose o y w) h ∙ ap (λ o. joined choose None o w) g

pub IsAlike-joined : (old other new : Sums) (max min : ℤ) → IsAlike old → IsAlike other → AreJoined int_max old.greatest other.greatest max new.greatest →
    AreJoined int_min old.least other.least min new.least → IsAlike new
IsAlike-joined old other new max min h g greatest least lane below none =
    let both = joined_none int_max (lane_at old.greatest lane) (lane_at other.greatest lane) max (sym (greatest lane below) ∙ none) in
    least lane below ∙ none_joined int_min (lane_at old.least lane) (lane_at other.least lane) min (h lane below both.0) (g lane below both.1)

-- what a call of carry leaves
pub record IsCarried (arc : TimingArc) (old new : List Sums) : Type 0 where
  pub others : (bit : ℕ) → bit ≢ arc.to → sums_at new bit ≡ sums_at old bit
  pub greatest : AreJoined int_max (sums_at old arc.to).greatest (sums_at old arc.from).greatest arc.max (sums_at new arc.to).greatest
  pub least : AreJoined int_min (sums_at old arc.to).least (sums_at old arc.from).least arc.min (sums_at new arc.to).least
  pub bounded : (most : ℕ) → IsBounded most (sums_at old arc.from) → IsBounded most (sums_at old arc.to) → IsBounded (most + 1000000000) (sums_at new arc.to)

module _ (arcs : List TimingArc) (order : List ℕ) (is_order : IsOrder arcs order) (k first lanes : ℕ) (old new : List Sums) (same : length new ≡ length old) (low : k < length order)
    (from_in : (arc_at arcs (get_or order k 0)).from < length old) (to_in : (arc_at arcs (get_or order k 0)).to < length old) (few : lanes ≤ 8)
    (carried : IsCarried (arc_at arcs (get_or order k 0)) old new) (h : AreSums arcs order k first lanes old) where
  abbrev arc : TimingArc
  arc = arc_at arcs (get_or order k 0)

  at_end : (P : ℕ → Type 0) (bit : ℕ) → bit ≡ arc.to → P arc.to → P bit
  at_end P bit e p = subst P (sym e) p

  -- the best sums at the bits, by what is at most what
  best_more : (AtMost : ℤ → ℤ → Type 0) (choose : ℤ → ℤ → ℤ) → IsChoiceBy AtMost choose → (weight : ℕ → ℤ) (row : Sums → List ℤ) →
      AreJoined choose (row (sums_at old arc.to)) (row (sums_at old arc.from)) (weight (get_or order k 0)) (row (sums_at new arc.to)) →
      ((bit lane : ℕ) → bit < length old → lane < lanes → IsBest AtMost weight arcs order k (output_of (first + lane)) bit (lane_at (row (sums_at old bit)) lane)) →
      (bit lane : ℕ) → bit < length new → lane < lanes → IsBest AtMost weight arcs order (k + 1) (output_of (first + lane)) bit (lane_at (row (sums_at new bit)) lane)
  best_more AtMost choose choice weight row joins best bit lane inside g =
      ⊎_elim
      (λ e. at_end (λ b. IsBest AtMost weight arcs order (k + 1) (output_of (first + lane)) b (lane_at (row (sums_at new b)) lane)) bit e
      (rw (joins lane (omega arith))
      (IsBest-joined AtMost choose choice weight arcs order is_order k (output_of (first + lane))
      (lane_at (row (sums_at old arc.to)) lane) (lane_at (row (sums_at old arc.from)) lane) low (best arc.to lane to_in g) (best arc.from lane from_in g))))
      (λ ne. rw (carried.others bit ne)
      (IsBest-other AtMost choose choice weight arcs order is_order k (output_of (first + lane)) bit (lane_at (row (sums_at old bit)) lane) low ne (best bit lane (omega arith) g)))
      (cases_eq bit arc.to)

  pub AreSums-more : AreSums arcs order (k + 1) first lanes new
  AreSums-more = record {
    greatest = best_more ◌≤ℤ◌ int_max greatest_choice (max_of arcs) (λ (s : Sums). s.greatest) carried.greatest h.greatest;
    least = best_more AtLeast int_min least_choice (min_of arcs) (λ (s : Sums). s.least) carried.least h.least;
    bounded = λ bit inside. ⊎_elim
        (λ e. at_end (λ b. IsBounded ((k + 1) * 1000000000) (sums_at new b)) bit e
        (IsBounded-weaker (k * 1000000000 + 1000000000) ((k + 1) * 1000000000) (sums_at new arc.to) (omega arith) (carried.bounded (k * 1000000000) (h.bounded arc.from from_in) (h.bounded arc.to to_in))))
        (λ ne. rw (carried.others bit ne) (IsBounded-weaker (k * 1000000000) ((k + 1) * 1000000000) (sums_at old bit) (omega arith) (h.bounded bit (omega arith))))
        (cases_eq bit arc.to);
    alike = λ bit inside. ⊎_elim
        (λ e. at_end (λ b. IsAlike (sums_at new b)) bit e
        (IsAlike-joined (sums_at old arc.to) (sums_at old arc.from) (sums_at new arc.to) arc.max arc.min (h.alike arc.to to_in) (h.alike arc.from from_in) carried.greatest carried.least))
        (λ ne. rw (carried.others bit ne) (h.alike bit (omega arith)))
        (cases_eq bit arc.to);
  }

-- an arc of the order is one of the design's
pub arc_inside : (arcs : List TimingArc) (order : List ℕ) → IsOrder arcs order → (n m : ℕ) → All (IsArc n m) arcs → (i : ℕ) → i < length order → IsArc n m (arc_at arcs (get_or order i 0))
arc_inside arcs order is_order n m each i below = each (get_or order i 0) no_arc (inside arcs order is_order i below)
