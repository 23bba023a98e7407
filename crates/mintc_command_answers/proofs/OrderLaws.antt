-- Schedules, departures and violations of a timing rest on its design and its pairs alone, and not on the order of its arcs.
use Rattle.std.proofs.Common.{◌≡◌, ℕ, ℤ, List, inl, inr, subst}
use Rattle.mintc_timing.specs.declared.clocking.Schedule.{Schedule}
use Rattle.mintc_timing.specs.declared.parts.Pair.{Pair}
use Rattle.mintc_timing.specs.declared.violation.Violation.{Violation}
use Rattle.mintc_timing.specs.Clocking.{KeepsClock, KeepsPhase}
use Rattle.mintc_timing.specs.Departures.{AreEarly, AreExact, AreExactEarly, AreLate}
use Rattle.mintc_timing.specs.Design.{Design, Timing}
use Rattle.mintc_timing.specs.Right.{IsRight}
use Rattle.mintc_timing.specs.Violations.{AreViolations, HasLoop, IsLoop}

-- the timing of a design with an order and pairs
abbrev pub timing_of : Design → List Pair → List ℕ → Timing
timing_of design pairs order = record { flat = design; order = order; pairs = pairs }

-- What holds of a design and its pairs in each order holds of each timing of them.
pub in_each_order : (P : Timing → Type 0) → ((design : Design) (pairs : List Pair) (a b : List ℕ) → P (timing_of design pairs a) → P (timing_of design pairs b)) →
    (t u : Timing) → t.flat ≡ u.flat → t.pairs ≡ u.pairs → P t → P u
in_each_order P turned t u flat pairs h =
    let own : P (timing_of t.flat t.pairs u.order) = turned t.flat t.pairs t.order u.order h in
    let of_pairs : P (timing_of t.flat u.pairs u.order) = subst (λ (x : List Pair). P (timing_of t.flat x u.order)) pairs own in
    subst (λ (x : Design). P (timing_of x u.pairs u.order)) flat of_pairs

module _ (s : Schedule) (design : Design) (pairs : List Pair) (a b : List ℕ) where
  phase_turned : (p : ℕ) → KeepsPhase (timing_of design pairs a) s p → KeepsPhase (timing_of design pairs b) s p
  phase_turned p h = record { start = h.start; span = h.span; order = h.order; wide = h.wide; apart = h.apart }

  pub clock_turned : KeepsClock (timing_of design pairs a) s → KeepsClock (timing_of design pairs b) s
  clock_turned h = record { den = h.den; starts = h.starts; widths = h.widths; each = λ p low high. phase_turned p (h.each p low high) }

  pub exact_turned : (d : List ℤ) → AreExact (timing_of design pairs a) s d → AreExact (timing_of design pairs b) s d
  exact_turned d h = record { count = h.count; each = h.each }

  early_turned : (d : List ℤ) → AreExactEarly (timing_of design pairs a) s d → AreExactEarly (timing_of design pairs b) s d
  early_turned d h = record { count = h.count; each = h.each }

  pub right_turned : (d : List ℤ) → IsRight (timing_of design pairs a) s d → IsRight (timing_of design pairs b) s d
  right_turned d h = record { clock = clock_turned h.clock; bounds = h.bounds; exact = exact_turned d h.exact; setup = h.setup }

  is_loop_turned : (loop : List ℕ) → IsLoop (timing_of design pairs a) loop → IsLoop (timing_of design pairs b) loop
  is_loop_turned loop h = record { exist = h.exist; latches = h.latches; closed = h.closed; once = h.once }

  loop_turned : (loop : List ℕ) (amount : ℤ) → HasLoop (timing_of design pairs a) s loop amount → HasLoop (timing_of design pairs b) s loop amount
  loop_turned loop amount h = record { is_loop = is_loop_turned loop h.is_loop; is_amount = h.is_amount; above = h.above }

module _ (s : Schedule) (design : Design) (pairs : List Pair) (a b : List ℕ) where
  are_late_turned : (d : List ℤ) → AreLate (timing_of design pairs a) s d → AreLate (timing_of design pairs b) s d
  are_late_turned d h = record { exact = exact_turned s design pairs a b d h.exact; least = λ e exact. h.least e (exact_turned s design pairs b a e exact) }

  are_early_turned : (d : List ℤ) → AreEarly (timing_of design pairs a) s d → AreEarly (timing_of design pairs b) s d
  are_early_turned d h = record { exact = early_turned s design pairs a b d h.exact; least = λ e exact. h.least e (early_turned s design pairs b a e exact) }

  violations_turned : (vs : List Violation) → AreViolations (timing_of design pairs a) s vs → AreViolations (timing_of design pairs b) s vs
  violations_turned vs (inl (loop, amount, has, are)) = inl (loop, amount, loop_turned s design pairs a b loop amount has, are)
  violations_turned vs (inr (none, (late, early, are_late, are_early, are))) =
      inr ((λ loop amount has. none loop amount (loop_turned s design pairs b a loop amount has)), (late, early, are_late_turned late are_late, are_early_turned early are_early, are))

-- So right schedules and violations are those of each order.
pub right_in_each_order : (t u : Timing) (s : Schedule) (d : List ℤ) → t.flat ≡ u.flat → t.pairs ≡ u.pairs → IsRight t s d → IsRight u s d
right_in_each_order t u s d = in_each_order (λ (x : Timing). IsRight x s d) (λ design pairs a b. right_turned s design pairs a b d) t u

pub violations_in_each_order : (t u : Timing) (s : Schedule) (vs : List Violation) → t.flat ≡ u.flat → t.pairs ≡ u.pairs → AreViolations t s vs → AreViolations u s vs
violations_in_each_order t u s vs = in_each_order (λ (x : Timing). AreViolations x s vs) (λ design pairs a b. violations_turned s design pairs a b vs) t u
