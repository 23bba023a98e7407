-- What sums along the whole order say.
use Rattle.std.proofs.Common.{◌≡◌, ◌≢◌, ℕ, ◌<◌, ◌≤◌, ◌+◌, ◌*◌, ℤ, ◌<ℤ◌, pos, List, [], ◌∷◌, length, arith, refl, Option, Some, None, subst}
use Rattle.std.specs.List.{All}
use Rattle.std.proofs.lemmas.Int.{ints}
use Rattle.mintc_timing.specs.declared.parts.TimingArc.{TimingArc}
use Rattle.mintc_timing.specs.Design.{Design, no_arc}
use Rattle.mintc_timing.specs.Limits.{IsArc}
use Rattle.mintc_timing.specs.Paths.{Leads, IsPath, arc_at, input_of, output_of, greatest_delay, IsGreatestDelay, IsLeastDelay}
use Rattle.mintc_timing.specs.Order.{IsOrder}
use Rattle.mintc_timing.proofs.SharedOrdered.{all_among}
use Rattle.mintc_lanes.specs.Lanes.{lane_at}
use Rattle.mintc_paths_sums.specs.declared.sums.Sums.{Sums}
use Rattle.mintc_paths_sums.specs.Sums.{sums_at}
use Rattle.mintc_paths.specs.Among.{IsGreatestAmong, IsLeastAmong}
use Rattle.mintc_paths.specs.Sums.{AreSums}
use Rattle.mintc_paths.specs.Reached.{IsPaired, IsReached, AreExtremes}

-- A path's end is one of the bits.
pub end_inside : (arcs : List TimingArc) (n m from n' : ℕ) (path : List ℕ) (to : ℕ) → All (IsArc n m) arcs → Leads arcs from (n' ∷ path) to → to < 2 * n + m
end_inside arcs n m from n' [] to each h = let arc = each n' no_arc h.0 in let e = h.2 in omega (arith, arc.to)
end_inside arcs n m from n' (x ∷ path) to each h = end_inside arcs n m (arc_at arcs n').to x path to each h.2

path_inside : (arcs : List TimingArc) (n m j bit : ℕ) (path : List ℕ) → All (IsArc n m) arcs → IsPath arcs j path bit → bit < 2 * n + m
path_inside arcs n m j bit [] each h = absurd (h.0 refl)
path_inside arcs n m j bit (n' ∷ path) each h = end_inside arcs n m (output_of j) n' path bit each h.1

module _ (design : Design) (order : List ℕ) (is_order : IsOrder design.arcs order) where
  -- a path from an output to another bit is a listed one
  listed : (j bit : ℕ) (path : List ℕ) → output_of j ≢ bit → Leads design.arcs (output_of j) path bit → IsPath design.arcs j path bit
  listed j bit path ne h = (λ e. ne (subst (λ xs. Leads design.arcs (output_of j) xs bit) e h), h)

  greatest_delay_of : (j bit : ℕ) (x : ℤ) → output_of j ≢ bit → IsGreatestAmong design.arcs order (length order) (output_of j) bit (Some x) → IsGreatestDelay design.arcs j bit x
  greatest_delay_of j bit x ne h = record {
    attained = let a = h.attained in (a.0, listed j bit a.0 ne a.2, a.3);
    bound = λ path g. h.bound path (all_among design.arcs order is_order (output_of j) path bit g.1) g.1;
  }

  least_delay_of : (j bit : ℕ) (x : ℤ) → output_of j ≢ bit → IsLeastAmong design.arcs order (length order) (output_of j) bit (Some x) → IsLeastDelay design.arcs j bit x
  least_delay_of j bit x ne h = record {
    attained = let a = h.attained in (a.0, listed j bit a.0 ne a.2, a.3);
    bound = λ path g. h.bound path (all_among design.arcs order is_order (output_of j) path bit g.1) g.1;
  }

  none_listed : (j bit : ℕ) → IsGreatestAmong design.arcs order (length order) (output_of j) bit None → (path : List ℕ) → IsPath design.arcs j path bit → ⊥
  none_listed j bit h path g = h.bound path (all_among design.arcs order is_order (output_of j) path bit g.1) g.1

  pub paired_of : (j l : ℕ) (x y : Option ℤ) → j < length design.elements → l < length design.elements → IsGreatestAmong design.arcs order (length order) (output_of j) (input_of l) x →
      IsLeastAmong design.arcs order (length order) (output_of j) (input_of l) y → IsPaired design j l x y
  paired_of j l None y from to h g = none_listed j (input_of l) h
  paired_of j l (Some x) None from to h g = let a = h.attained in g.bound a.0 a.1 a.2
  paired_of j l (Some x) (Some y) from to h g =
      let ne : output_of j ≢ input_of l = λ e. omega arith in
      record { from = from; to = to; greatest = greatest_delay_of j (input_of l) x ne h; least = least_delay_of j (input_of l) y ne g }

  reached_of : (j bit : ℕ) (x : Option ℤ) → IsGreatestAmong design.arcs order (length order) (output_of j) bit x → IsReached design j bit x
  reached_of j bit None h = none_listed j bit h
  reached_of j bit (Some z) h = (
    λ path g. h.bound path (all_among design.arcs order is_order (output_of j) path bit g.1) g.1,
    λ above. let a = h.attained in (a.0, (λ e. no_sum a.0 e a.3 above, a.2), a.3),
  )
    where
      no_sum : (path : List ℕ) → path ≡ [] → greatest_delay design.arcs path ≡ z → pos 0 <ℤ z → ⊥
      no_sum [] e g above = omega (arith, ints)
      no_sum (x ∷ path) e g above = cc

  pub AreExtremes-from_sums : (first lanes : ℕ) (sums : List Sums) → length sums ≡ 2 * length design.elements + length design.inner → first + lanes ≤ length design.elements →
      All (IsArc (length design.elements) (length design.inner)) design.arcs → AreSums design.arcs order (length order) first lanes sums → AreExtremes design first lanes sums
  AreExtremes-from_sums first lanes sums bits few each h = record {
    paired = λ lane g l below. paired_of (first + lane) l (lane_at (sums_at sums (input_of l)).greatest lane) (lane_at (sums_at sums (input_of l)).least lane) (omega arith) below
        (h.greatest (input_of l) lane (omega arith) g) (h.least (input_of l) lane (omega arith) g);
    reached = λ bit lane inside g. reached_of (first + lane) bit (lane_at (sums_at sums bit).greatest lane) (h.greatest bit lane inside g);
    inside = λ j bit path g. let below = path_inside design.arcs (length design.elements) (length design.inner) j bit path each g in omega arith;
  }
