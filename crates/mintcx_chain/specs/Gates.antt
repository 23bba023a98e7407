-- The gates of a path, by the names of its bits.
use Rattle.std.specs.Prelude.{ℕ, suc, ◌+◌, ◌-◌, ◌*◌, ◌==◌, pos, Bool, if◌then◌else◌, nat_lt, int_lt, bytes_eq}
use Rattle.std.specs.Prelude.{List, [], ◌∷◌, take, drop, slice_index_or, filter_map, Option, Some, None, option_map}
use Rattle.mintc_timing.specs.Design.{Design, element_count}
use Rattle.mintc_timing.specs.Paths.{arc_at}

-- what comes of one byte more at the front of a name in which a byte stands last at a place, if anywhere
abbrev pub one_on : Bool → Option ℕ → Option ℕ
one_on here (Some n) = Some (suc n)
one_on here None = if here then Some 0 else None

-- where a byte stands last in a name
abbrev pub place_of_last : ℕ → List ℕ → Option ℕ
place_of_last byte [] = None
place_of_last byte (other ∷ name) = one_on (other == byte) (place_of_last byte name)

-- the part of a name before its last point, if it has one: of a pin's name that of its instance
abbrev pub owner : List ℕ → Option (List ℕ)
owner name = option_map (λ n. take n name) (place_of_last 46 name)

-- the part of a name behind a place, if there is one
abbrev pub behind : List ℕ → Option ℕ → List ℕ
behind name None = name
behind name (Some n) = drop (n + 1) name

-- the part of a name behind its last point, or all of it
abbrev pub short_name : List ℕ → List ℕ
short_name name = behind name (place_of_last 46 name)

-- the name of an inner bit, and an empty one of other bits
abbrev pub bit_name : Design → ℕ → List ℕ
bit_name design bit = if nat_lt bit (2 * element_count design) then [] else
    slice_index_or design.inner (bit - 2 * element_count design) []

-- The gate of an arc, by the owners of the bits that it leaves and enters: the one instance that owns both. In a table
-- bits have no owners, and each one that is entered counts as a gate.
abbrev pub between : Option (List ℕ) → Option (List ℕ) → List ℕ → Option (List ℕ)
between None None to = Some to
between (Some a) (Some b) to = if bytes_eq a b then Some b else None
between a b to = None

-- the same by the names of the bits; an element's bits have empty names
abbrev pub gate_between : List ℕ → List ℕ → Option (List ℕ)
gate_between from [] = None
gate_between from (byte ∷ to) = between (owner from) (owner (byte ∷ to)) (byte ∷ to)

-- the gate of the arc of a number, if it is of one: arcs that take no time are wires
abbrev pub gate_of : Design → ℕ → Option (List ℕ)
gate_of design n = if int_lt (pos 0) (arc_at design.arcs n).max
    then gate_between (bit_name design (arc_at design.arcs n).from) (bit_name design (arc_at design.arcs n).to)
    else None

-- the gates along a path
abbrev pub gates_of : Design → List ℕ → List (List ℕ)
gates_of design path = filter_map (gate_of design) path
