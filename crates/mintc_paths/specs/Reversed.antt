-- A design reversed, whose paths lead from the inputs of a design back to its outputs.
use Rattle.std.specs.Prelude.{◌==◌, ◌+◌, ◌-◌, ◌*◌, ◌/◌, ◌%◌, ℕ, List, length, map, cond, nat_lt}
use Rattle.mintc_timing.specs.declared.parts.TimingArc.{TimingArc}
use Rattle.mintc_timing.specs.declared.parts.Pair.{Pair}
use Rattle.mintc_timing.specs.Design.{Design}
use Rattle.mintc_text.specs.declared.limits.TheConstants.{MOST_ELEMENTS}
use Rattle.mintc_paths_sums.specs.Placed.{row_of}

-- Where a bit goes: of n elements, an output becomes the input of its element, and an input the output at its element's
-- place; an inner bit stays.
abbrev pub reversed_bit : ℕ → List ℕ → ℕ → ℕ
reversed_bit n places bit = cond (nat_lt bit (2 * n)) (cond (bit % 2 == 1) (bit - 1) (2 * row_of places (bit / 2) + 1))
    bit

-- which bit goes there, by the elements at the places
abbrev pub bit_before : ℕ → List ℕ → ℕ → ℕ
bit_before n elements bit = cond (nat_lt bit (2 * n)) (cond (bit % 2 == 0) (bit + 1) (2 * row_of elements (bit / 2)))
    bit

-- the arc from its end to its start
abbrev pub flipped : TimingArc → TimingArc
flipped arc = record { from = arc.to; to = arc.from; min = arc.min; max = arc.max }

-- the arc from where its end goes to where its start goes
abbrev pub reversed_arc : ℕ → List ℕ → TimingArc → TimingArc
reversed_arc n places arc = record {
  from = reversed_bit n places arc.to;
  to = reversed_bit n places arc.from;
  min = arc.min;
  max = arc.max;
}

-- all arcs reversed, in their order
abbrev pub reversed_arcs : ℕ → List ℕ → List TimingArc → List TimingArc
reversed_arcs n places arcs = map (reversed_arc n places) arcs

-- the design with its arcs reversed
abbrev pub reversed_design : List ℕ → Design → Design
reversed_design places design = record design { arcs = reversed_arcs (length design.elements) places design.arcs }

-- the pair of a design, from a pair of the design reversed
abbrev pub pair_back : List ℕ → Pair → Pair
pair_back elements pair = record { from = pair.to; to = row_of elements pair.from; min = pair.min; max = pair.max }

-- by what pairs are ordered: the first element, then the second
abbrev pub key_of : Pair → ℕ
key_of pair = MOST_ELEMENTS * pair.from + pair.to
