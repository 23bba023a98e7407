-- Which setups and holds are worst off.
use Rattle.std.specs.Prelude.{◌<◌, ◌==◌, ℕ, ℤ, pos, int_lt, List, [], ◌∷◌, ◌++◌, flat_map, if◌then◌else◌}
use Rattle.std.specs.Prelude.{Option, Some, None}
use Rattle.std.specs.List.Sorted.{IsPermutation, IsSorted}
use Rattle.std.specs.Ordering.{nat_cmp, int_cmp, ordering_then}
use Rattle.std.specs.declared.cmp.Ordering.{Ordering}
use Rattle.mintc_timing.specs.declared.clocking.Schedule.{Schedule}
use Rattle.mintc_timing.specs.Design.{Design, Timing, element_count, pair_at}
use Rattle.mintc_timing.specs.Violations.{elements_of}
use Rattle.mintcx_judgements.specs.Passes.{hold_room, setup_room}
use Rattle.mintcx_frame.specs.Names.{element_name}
use Rattle.mintcx_judgements.specs.Shown.{IsLong}
use Rattle.mintcx_judgements.specs.Sources.{earliest_into, latest_into}

-- the first part of a place that leaves so much room: what is broken comes first
abbrev pub kept_rank : ℤ → ℕ
kept_rank room = if int_lt room (pos 0) then 0 else 1

-- the place of a setup that leaves so much room
abbrev pub setup_at : ℕ → Option ℤ → Option (ℕ × ℕ × ℤ × ℕ)
setup_at l (Some room) = Some (kept_rank room, 0, room, l)
setup_at l None = None

-- the same where data comes by a pair
abbrev pub setup_by : ℕ → Option ℕ → Option ℤ → Option (ℕ × ℕ × ℤ × ℕ)
setup_by l (Some pair) room = setup_at l room
setup_by l None room = None

-- the place of the setup of an element, where data comes to it
abbrev pub setup_place : Timing → Schedule → List ℤ → ℕ → Option (ℕ × ℕ × ℤ × ℕ)
setup_place t s late l = setup_by l (latest_into t s late l) (setup_room t s late l)

-- the place of a hold that leaves so much room, where it is broken
abbrev pub hold_at : ℕ → Option ℤ → Option (ℕ × ℕ × ℤ × ℕ)
hold_at l (Some room) = if int_lt room (pos 0) then Some (0, 1, room, l) else None
hold_at l None = None

-- the place of the hold of an element, where it is broken
abbrev pub hold_place : Timing → Schedule → List ℤ → ℕ → Option (ℕ × ℕ × ℤ × ℕ)
hold_place t s early l = hold_at l (hold_room t s early l)

-- a place as a list
abbrev pub place_list : Option (ℕ × ℕ × ℤ × ℕ) → List (ℕ × ℕ × ℤ × ℕ)
place_list (Some place) = place ∷ []
place_list None = []

-- the places of an element
abbrev pub places_at : Timing → Schedule → List ℤ → List ℤ → ℕ → List (ℕ × ℕ × ℤ × ℕ)
places_at t s late early l = place_list (setup_place t s late l) ++ place_list (hold_place t s early l)

-- places by their parts, the first part first
abbrev pub place_cmp : ℕ × ℕ × ℤ × ℕ → ℕ × ℕ × ℤ × ℕ → Ordering
place_cmp x y =
    ordering_then (ordering_then (ordering_then (nat_cmp x.0 y.0) (nat_cmp x.1 y.1)) (int_cmp x.2 y.2))
    (nat_cmp x.3 y.3)

-- The places are those of all elements, in order.
pub record AreWorst (t : Timing) (s : Schedule) (late early : List ℤ) (places : List (ℕ × ℕ × ℤ × ℕ)) : Type 0 where
  pub permutation : IsPermutation (flat_map (places_at t s late early) (elements_of t.flat)) places
  pub sorted : IsSorted place_cmp places

-- A place is of an element of the design, and its room is in its range.
abbrev pub IsPlace : Design → ℕ × ℕ × ℤ × ℕ → Type 0
IsPlace design place = (place.3 < element_count design) × IsLong place.2

-- the pair whose data decides a place: that which comes first for a hold, else that which comes last
abbrev pub deciding : Timing → Schedule → List ℤ → List ℤ → ℕ → ℕ → Option ℕ
deciding t s late early kind l = if kind == 1 then earliest_into t s early l else latest_into t s late l

-- the names of two elements
abbrev pub two_names : Design → ℕ → ℕ → List (List ℕ)
two_names design from to = element_name design from ∷ element_name design to ∷ []

-- the names of the elements of a pair, where there is one
abbrev pub pair_names : Timing → Option ℕ → List (List ℕ)
pair_names t (Some n) = two_names t.flat (pair_at t n).from (pair_at t n).to
pair_names t None = []

-- the names of the rows of a place: of the element from which the data comes that decides it, and of its own
abbrev pub place_names : Timing → Schedule → List ℤ → List ℤ → ℕ × ℕ × ℤ × ℕ → List (List ℕ)
place_names t s late early place = pair_names t (deciding t s late early place.1 place.3)
