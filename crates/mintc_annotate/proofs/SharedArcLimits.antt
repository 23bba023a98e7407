-- The arcs of the design that is made are within their limits.
use Rattle.std.proofs.Common.{◌≡◌, ◌<◌, ◌≤◌, ◌+◌, ℕ, ℤ, List, [], ◌∷◌, map, length, get_or, All, unwrap_or, sym, arith, length-append}
use Rattle.std.proofs.lemmas.Int.{ints}
use Rattle.std.proofs.lemmas.List.Elements.{All-head, All-tail, All-nil, All-cons, All-map}
use Rattle.mintc_cells.specs.declared.cell.Cell.{Cell}
use Rattle.mintc_cells.specs.Rules.{pins, inputs_of, outputs_of}
use Rattle.mintc_flatten_hierarchy.specs.declared.hierarchy.Join.{Join}
use Rattle.mintc_clock.specs.declared.clock.Listed.{Listed}
use Rattle.mintc_timing.specs.Limits.{IsArc}
use Rattle.mintc_timing.specs.Paths.{input_of, output_of}
use Rattle.mintc_annotate_resolve.specs.Pins.{input_count, output_count}
use Rattle.mintc_annotate_resolve.specs.Resolution.{Said, range_of, join_into, arcs_from}
use Rattle.mintc_annotate.specs.Made.{arc_of, no_delay, inner_bit, join_arc, input_arcs, output_arcs}
use Rattle.mintc_annotate_resolve.proofs.SharedRangeLimits.{AreSaid, range_in}
use Rattle.mintc_annotate.proofs.SharedElementLimits.{AreDelays, or_in}

pub none_delays : AreDelays no_delay
none_delays = ((omega (arith, ints), omega (arith, ints)), (omega (arith, ints), omega (arith, ints)), omega (arith, ints))

-- an arc between two inner bits, into an element, and out of one
pub inner_arc : (n m b c : ℕ) (r : ℤ × ℤ) → b < m → c < m → AreDelays r → IsArc n m (arc_of (inner_bit n b) (inner_bit n c) r)
inner_arc n m b c r from to delays = grind arith

pub data_arc : (n m b e : ℕ) (r : ℤ × ℤ) → b < m → e < n → AreDelays r → IsArc n m (arc_of (inner_bit n b) (input_of e) r)
data_arc n m b e r from to delays = grind arith

pub output_arc : (n m b e : ℕ) (r : ℤ × ℤ) → b < m → e < n → AreDelays r → IsArc n m (arc_of (output_of e) (inner_bit n b) r)
output_arc n m b e r to from delays = grind arith

-- the arcs of joins
pub joins_in : (ss : List Said) (n m : ℕ) (joins : List Join) → AreSaid ss → All (λ j. (j.from < m) × (j.to < m)) joins → All (IsArc n m) (map (join_arc (range_of ss) n) joins)
joins_in ss n m joins are within =
    All-map (IsArc n m) (join_arc (range_of ss) n) joins (λ i j less. let here = within i j less in
    inner_arc n m (get_or joins i j).from (get_or joins i j).to (unwrap_or (range_of ss (join_into (get_or joins i j).to)) no_delay) here.0 here.1
    (or_in (range_of ss (join_into (get_or joins i j).to)) no_delay (λ q e. let r = range_in ss (join_into (get_or joins i j).to) q are e in (r.low, r.high, r.ordered)) none_delays))

-- the arcs of listed ports
pub inputs_in : (n m e : ℕ) (xs : List (Listed × ℕ)) → e + length xs ≤ n → All (λ (x : Listed × ℕ). x.1 < m) xs → All (IsArc n m) (input_arcs n e xs)
inputs_in n m e [] few within = All-nil (IsArc n m)
inputs_in n m e (x ∷ xs) few within =
    All-cons (IsArc n m) (arc_of (output_of e) (inner_bit n x.1) no_delay) (input_arcs n (e + 1) xs) (output_arc n m x.1 e no_delay (All-head (λ (x : Listed × ℕ). x.1 < m) x xs within) (omega (arith, few)) none_delays)
    (inputs_in n m (e + 1) xs (omega (arith, few)) (All-tail (λ (x : Listed × ℕ). x.1 < m) x xs within))

pub outputs_in : (ss : List Said) (n m e : ℕ) (xs : List (Listed × ℕ)) → AreSaid ss → e + length xs ≤ n → All (λ (x : Listed × ℕ). x.1 < m) xs → All (IsArc n m) (output_arcs (range_of ss) n e xs)
outputs_in ss n m e [] are few within = All-nil (IsArc n m)
outputs_in ss n m e (x ∷ xs) are few within =
    All-cons (IsArc n m) (arc_of (inner_bit n x.1) (input_of e) (unwrap_or (range_of ss (arcs_from x.1)) no_delay)) (output_arcs (range_of ss) n (e + 1) xs)
    (data_arc n m x.1 e (unwrap_or (range_of ss (arcs_from x.1)) no_delay) (All-head (λ (x : Listed × ℕ). x.1 < m) x xs within) (omega (arith, few))
    (or_in (range_of ss (arcs_from x.1)) no_delay (λ q e. let i = range_in ss (arcs_from x.1) q are e in (i.low, i.high, i.ordered)) none_delays))
    (outputs_in ss n m (e + 1) xs are (omega (arith, few)) (All-tail (λ (x : Listed × ℕ). x.1 < m) x xs within))

-- a cell's pins are its inputs and its outputs
pub pins_count : (cell : Cell) → input_count cell + output_count cell ≡ length (pins cell)
pins_count cell = sym (length-append (inputs_of cell) (outputs_of cell))
