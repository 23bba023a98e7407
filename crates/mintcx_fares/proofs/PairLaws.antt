-- The sizes of the delays of pairs.
use Rattle.std.proofs.Common.{ℕ, ◌<◌, pos, ◌≤ℤ◌, List, [], ◌∷◌, length, get_or, arith}
use Rattle.std.proofs.lemmas.Int.{ints}
use Rattle.mintc_timing.specs.declared.parts.Pair.{Pair}
use Rattle.mintc_timing.specs.declared.parts.TimingArc.{TimingArc}
use Rattle.mintc_timing.specs.Design.{Design, no_arc}
use Rattle.mintc_timing.specs.Limits.{IsDesign, IsDelay}
use Rattle.mintc_timing.specs.Order.{IsTiming}
use Rattle.mintc_timing.specs.Paths.{Leads, arc_at, greatest_delay, least_delay}
use Rattle.mintc_timing.proofs.SharedRanges.{pair-max_range}

-- Along a path of arcs the least delay is not negative, and at most the greatest one.
delays_ordered : (arcs : List TimingArc) → ((n : ℕ) → n < length arcs → (pos 0 ≤ℤ (arc_at arcs n).min) × ((arc_at arcs n).min ≤ℤ (arc_at arcs n).max)) →
    (from : ℕ) (path : List ℕ) (to : ℕ) → Leads arcs from path to → (pos 0 ≤ℤ least_delay arcs path) × (least_delay arcs path ≤ℤ greatest_delay arcs path)
delays_ordered arcs each from [] to h = (omega (arith, ints), omega (arith, ints))
delays_ordered arcs each from (n ∷ path) to h =
    let here = each n h.0 in
    let rest = delays_ordered arcs each (arc_at arcs n).to path to h.2 in
    (omega (arith, ints), omega (arith, ints))

-- the least delay of a pair
pub least_in_range : (flat : Design) (order : List ℕ) (pairs : List Pair) → IsDesign flat → IsTiming flat order pairs → (n : ℕ) (d : Pair) → n < length pairs → IsDelay (get_or pairs n d).min
least_in_range flat order pairs limits kept n d h =
    let named = kept.extremes.each n d h in
    let some = named.least.attained in
    let ordered = delays_ordered flat.arcs (λ k g. let arc = limits.each_arc k no_arc g in (arc.min.0, arc.ordered)) _ some.0 _ some.1.1 in
    let most = named.greatest.bound some.0 some.1 in
    let max : IsDelay (get_or pairs n d).max = pair-max_range flat order pairs limits kept n d h in
    (omega (arith, ints), omega (arith, ints))
