-- Sums along no arcs.
use Rattle.std.proofs.Common.{◌≡◌, ◌≢◌, ℕ, ◌<◌, ◌≤◌, ◌+◌, ◌*◌, ℤ, ◌≤ℤ◌, pos, List, length, arith, ◌∙◌, sym, ◌⊎◌, inl, inr, ⊎_elim, Option, Some, None, subst}
use Rattle.std.specs.Prelude.{IfSome, unsigned_abs}
use Rattle.std.specs.Int.{int_max, int_min}
use Rattle.std.proofs.lemmas.Int.{ints}
use Rattle.std.proofs.lemmas.Bool.{cases_eq}
use Rattle.mintc_timing.specs.declared.parts.TimingArc.{TimingArc}
use Rattle.mintc_timing.specs.Paths.{output_of}
use Rattle.mintc_lanes.specs.Lanes.{lane_at}
use Rattle.mintc_paths_sums.specs.declared.sums.Sums.{Sums}
use Rattle.mintc_paths_sums.specs.declared.sums.TheConstants.{NO_SUMS}
use Rattle.mintc_paths_sums.specs.Sums.{sums_at, IsBounded, IsAlike}
use Rattle.mintc_paths_sums.proofs.SharedNoSums.{none_at}
use Rattle.mintc_paths.specs.Among.{IsBest, AtLeast, max_of, min_of}
use Rattle.mintc_paths.specs.Sums.{AreBegun}
use Rattle.mintc_paths.proofs.Best.{greatest_choice, least_choice, IsBest-begun}

pub AreBegun-none : (arcs : List TimingArc) (order : List ℕ) (first : ℕ) (sums : List Sums) → ((bit : ℕ) → bit < length sums → sums_at sums bit ≡ NO_SUMS) → AreBegun arcs order first 0 sums
AreBegun-none arcs order first sums h = record {
  sums_so_far = record {
    greatest = λ bit lane inside g. absurd (omega arith);
    least = λ bit lane inside g. absurd (omega arith);
    bounded = λ bit inside. subst (λ (s : Sums). IsBounded (0 * 1000000000) s) (sym (h bit inside)) (record { greatest = λ lane g. rw (none_at lane g).0 tt; least = λ lane g. rw (none_at lane g).1 tt });
    alike = λ bit inside. subst (λ (s : Sums). IsAlike s) (sym (h bit inside)) (λ lane g e. (none_at lane g).1);
  };
  absent = λ bit lane inside low g. subst (λ (s : Sums). (lane_at s.greatest lane ≡ None) × (lane_at s.least lane ≡ None)) (sym (h bit inside)) (none_at lane g);
}

-- what a call of begin leaves in a row, or at a bit
pub record IsBegun (old new : List Sums) (at lane : ℕ) : Type 0 where
  pub others : (other : ℕ) → other ≢ at → sums_at new other ≡ sums_at old other
  pub lanes : (other : ℕ) → other ≢ lane
      → (lane_at (sums_at new at).greatest other ≡ lane_at (sums_at old at).greatest other) × (lane_at (sums_at new at).least other ≡ lane_at (sums_at old at).least other)
  pub own : (lane_at (sums_at new at).greatest lane ≡ Some (pos 0)) × (lane_at (sums_at new at).least lane ≡ Some (pos 0))

module _ (arcs : List TimingArc) (order : List ℕ) (first lane : ℕ) (old new : List Sums) (same : length new ≡ length old) (below : lane < 8) (begun : IsBegun old new (output_of (first + lane)) lane)
    (h : AreBegun arcs order first lane old) where
  -- the other lanes are as they were, at each bit
  kept : (bit other : ℕ) → other ≢ lane →
      (lane_at (sums_at new bit).greatest other ≡ lane_at (sums_at old bit).greatest other) × (lane_at (sums_at new bit).least other ≡ lane_at (sums_at old bit).least other)
  kept bit other ne = grind (arith, begun.others, begun.lanes)

  -- the lane is 0 at its output, and absent elsewhere
  abbrev IsOwn : ℕ → Option ℤ → Type 0
  IsOwn bit x = ((bit ≡ output_of (first + lane)) × (x ≡ Some (pos 0))) ⊎ ((bit ≢ output_of (first + lane)) × (x ≡ None))

  at_lane : (bit : ℕ) → bit < length new → IsOwn bit (lane_at (sums_at new bit).greatest lane) × IsOwn bit (lane_at (sums_at new bit).least lane)
  at_lane bit inside = grind (arith, begun.others, begun.own, h.absent bit lane)

  IsOwn-within : (bit : ℕ) (x : Option ℤ) → IsOwn bit x → IfSome x (λ z. unsigned_abs z ≤ 0)
  IsOwn-within bit x (inl g) = rw g.1 (omega (arith, ints))
  IsOwn-within bit x (inr g) = rw g.1 tt

  IsOwn-alike : (bit : ℕ) (x y : Option ℤ) → IsOwn bit x → IsOwn bit y → x ≡ None → y ≡ None
  IsOwn-alike bit x y g k e = grind arith

  by_lane : (P : ℕ → Type 0) (other : ℕ) → P lane → (other ≢ lane → P other) → P other
  by_lane P other here there = ⊎_elim (λ e. subst P (sym e) here) there (cases_eq other lane)

  pub AreBegun-more : AreBegun arcs order first (lane + 1) new
  AreBegun-more = record {
    sums_so_far = record {
      greatest = λ bit other inside g. by_lane (λ l. IsBest ◌≤ℤ◌ (max_of arcs) arcs order 0 (output_of (first + l)) bit (lane_at (sums_at new bit).greatest l)) other
          (IsBest-begun ◌≤ℤ◌ int_max greatest_choice (max_of arcs) arcs order (output_of (first + lane)) bit (lane_at (sums_at new bit).greatest lane) (at_lane bit inside).0)
          (λ ne. rw (kept bit other ne).0 (h.sums_so_far.greatest bit other (omega arith) (omega arith)));
      least = λ bit other inside g. by_lane (λ l. IsBest AtLeast (min_of arcs) arcs order 0 (output_of (first + l)) bit (lane_at (sums_at new bit).least l)) other
          (IsBest-begun AtLeast int_min least_choice (min_of arcs) arcs order (output_of (first + lane)) bit (lane_at (sums_at new bit).least lane) (at_lane bit inside).1)
          (λ ne. rw (kept bit other ne).1 (h.sums_so_far.least bit other (omega arith) (omega arith)));
      bounded = λ bit inside. record {
        greatest = λ other g. by_lane (λ l. IfSome (lane_at (sums_at new bit).greatest l) (λ z. unsigned_abs z ≤ 0)) other (IsOwn-within bit (lane_at (sums_at new bit).greatest lane) (at_lane bit inside).0)
            (λ ne. rw (kept bit other ne).0 ((h.sums_so_far.bounded bit (omega arith)).greatest other g));
        least = λ other g. by_lane (λ l. IfSome (lane_at (sums_at new bit).least l) (λ z. unsigned_abs z ≤ 0)) other (IsOwn-within bit (lane_at (sums_at new bit).least lane) (at_lane bit inside).1)
            (λ ne. rw (kept bit other ne).1 ((h.sums_so_far.bounded bit (omega arith)).least other g));
      };
      alike = λ bit inside other g. by_lane (λ l. lane_at (sums_at new bit).greatest l ≡ None → lane_at (sums_at new bit).least l ≡ None) other
          (IsOwn-alike bit (lane_at (sums_at new bit).greatest lane) (lane_at (sums_at new bit).least lane) (at_lane bit inside).0 (at_lane bit inside).1)
          (λ ne e. (kept bit other ne).1 ∙ h.sums_so_far.alike bit (omega arith) other g (sym (kept bit other ne).0 ∙ e));
    };
    absent = λ bit other inside low g.
        let ne : other ≢ lane = omega arith in
        let none = h.absent bit other (omega arith) (omega arith) g in
        ((kept bit other ne).0 ∙ none.0, (kept bit other ne).1 ∙ none.1);
  }
