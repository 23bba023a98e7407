-- The pairs of a design, found one after another.
use Rattle.std.proofs.Common.{◌≡◌, ◌≢◌, ℕ, zero, suc, ◌<◌, ◌≤◌, ◌+◌, ℤ, pos, ◌≤ℤ◌, List, [], ◌∷◌, ◌++◌, length, get_or, arith, refl, ⊎_elim, Option, Some, None}
use Rattle.std.specs.Int.{int_max, int_min}
use Rattle.std.proofs.lemmas.Bool.{cases_eq}
use Rattle.mintc_timing.specs.declared.parts.Pair.{Pair}
use Rattle.mintc_timing.specs.declared.parts.TimingArc.{TimingArc}
use Rattle.mintc_timing.specs.Design.{Design}
use Rattle.mintc_timing.specs.Order.{IsOrder}
use Rattle.mintc_timing.specs.Paths.{arc_at, input_of, output_of}
use Rattle.mintc_lanes.specs.Lanes.{joined}
use Rattle.mintc_paths.specs.Among.{IsBest, AtLeast, max_of, min_of}
use Rattle.mintc_paths.specs.Found.{ArePairsBefore}
use Rattle.mintc_paths.specs.Reached.{IsPaired, pair_of}
use Rattle.mintc_paths.specs.Existing.{PairsExist}
use Rattle.mintc_paths.proofs.Best.{IsChoiceBy, greatest_choice, least_choice, IsBest-here, IsBest-none, IsBest-other, IsBest-joined}
use Rattle.mintc_paths.proofs.SharedFinding.{ArePairsBefore-none, ArePairsBefore-skip, ArePairsBefore-push, ArePairsBefore-next, ArePairs-from_before}
use Rattle.mintc_paths.proofs.Reaching.{paired_of}

next : (k : ℕ) → k + 1 ≡ suc k
next k = omega arith

module _ (AtMost : ℤ → ℤ → Type 0) (choose : ℤ → ℤ → ℤ) (choice : IsChoiceBy AtMost choose) (weight : ℕ → ℤ) (arcs : List TimingArc) (order : List ℕ) (is_order : IsOrder arcs order) where
  -- along one more arc
  one_arc : (k : ℕ) → k < length order → (from to : ℕ) (x y : Option ℤ) → IsBest AtMost weight arcs order k from to x → IsBest AtMost weight arcs order k from (arc_at arcs (get_or order k 0)).from y →
      (z : Option ℤ) × IsBest AtMost weight arcs order (k + 1) from to z
  one_arc k low from to x y h g = ⊎_elim
      (λ e. (joined choose x y (weight (get_or order k 0)), rw e (IsBest-joined AtMost choose choice weight arcs order is_order k from x y low (rw e at h) g)))
      (λ ne. (x, IsBest-other AtMost choose choice weight arcs order is_order k from to x low ne h))
      (cases_eq to (arc_at arcs (get_or order k 0)).to)

  -- there is a best sum, or no path
  pub best : (k : ℕ) → k ≤ length order → (from to : ℕ) → (x : Option ℤ) × IsBest AtMost weight arcs order k from to x
  best zero few from to = ⊎_elim
      (λ (e : from ≡ to). (Some (pos 0), rw (← e) (IsBest-here AtMost choose choice weight arcs order from)))
      (λ (ne : from ≢ to). (None, IsBest-none AtMost choose choice weight arcs order from to ne))
      (cases_eq from to)
  best (suc k) few from to =
      let there = best k (omega arith) from to in
      let here = best k (omega arith) from (arc_at arcs (get_or order k 0)).from in
      rw (← next k) (one_arc k (omega arith) from to there.0 here.0 there.1 here.1)

module _ (design : Design) (order : List ℕ) (is_order : IsOrder design.arcs order) where
  -- one more pair, if the two elements are one
  one_more : (from to : ℕ) → from < length design.elements → to < length design.elements → (pairs : List Pair) → ArePairsBefore design from to pairs →
      (more : List Pair) × ArePairsBefore design from (to + 1) more
  one_more from to from_in to_in pairs before =
      let most = best ◌≤ℤ◌ int_max greatest_choice (max_of design.arcs) design.arcs order is_order (length order) (omega arith) (output_of from) (input_of to) in
      let least = best AtLeast int_min least_choice (min_of design.arcs) design.arcs order is_order (length order) (omega arith) (output_of from) (input_of to) in
      add most.0 least.0 (paired_of design order is_order from to most.0 least.0 from_in to_in most.1 least.1)
    where
      add : (x y : Option ℤ) → IsPaired design from to x y → (more : List Pair) × ArePairsBefore design from (to + 1) more
      add None y h = (pairs, ArePairsBefore-skip design from to pairs before h)
      add (Some x) None h = absurd h
      add (Some x) (Some y) h = (pairs ++ pair_of from to y x ∷ [], ArePairsBefore-push design from to pairs before (pair_of from to y x) h refl refl)

  from_one : (from : ℕ) → from < length design.elements → (pairs : List Pair) → ArePairsBefore design from 0 pairs →
      (to : ℕ) → to ≤ length design.elements → (more : List Pair) × ArePairsBefore design from to more
  from_one from from_in pairs before zero few = (pairs, before)
  from_one from from_in pairs before (suc to) few =
      let old = from_one from from_in pairs before to (omega arith) in
      rw (← next to) (one_more from to from_in (omega arith) old.0 old.1)

  from_all : (from : ℕ) → from ≤ length design.elements → (pairs : List Pair) × ArePairsBefore design from 0 pairs
  from_all zero few = ([], ArePairsBefore-none design)
  from_all (suc from) few =
      let old = from_all from (omega arith) in
      let row = from_one from (omega arith) old.0 old.1 (length design.elements) (omega arith) in
      (row.0, rw (← next from) (ArePairsBefore-next design from row.0 row.1))

pub pairs_exist_lem : PairsExist
pairs_exist_lem design order is_order =
    let all = from_all design order is_order (length design.elements) (omega arith) in
    (all.0, ArePairs-from_before design all.0 all.1)
