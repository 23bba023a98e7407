-- Setups, holds and loops that fail, in words, with the data that causes it.
use Rattle.std.specs.Prelude.{ℕ, ℤ, ◌+ℤ◌, ◌-ℤ◌, neg_ℤ, ◌||◌, List, [], ◌∷◌, ◌++◌, codes, map, if◌then◌else◌, int_le}
use Rattle.std.specs.Prelude.{Bool, Option, Some, None, flat_map}
use Rattle.mintc_timing.specs.declared.clocking.Schedule.{Schedule}
use Rattle.mintc_timing.specs.Design.{Design, Timing, element_at, pair_at, phase_of}
use Rattle.mintc_timing.specs.Clocking.{shift_of}
use Rattle.mintcx_amounts.specs.declared.unit.Unit.{Unit}
use Rattle.mintcx_frame.specs.Names.{phase_name, element_name, kind_on_phase}
use Rattle.mintcx_judgements.specs.Shown.{timed, measured, about}
use Rattle.mintcx_judgements.specs.Sources.{leaving, longest, shortest, turning, coming_late, there}
use Rattle.mintcx_judgements.specs.Sources.{edge_of, setup_of, hold_of}

-- an element with its kind and its phase
abbrev pub element_in_words : Design → ℕ → List ℕ
element_in_words design l = about (element_name design l) (codes " (") (kind_on_phase design l) ++ codes ")"

-- from where data comes, when it leaves, how long it takes and when it is there
abbrev pub source_line : Design → Schedule → Unit → ℕ → List ℕ → ℤ → ℤ → List ℕ
source_line design s unit from takes leaves travel =
    codes "         from " ++ element_in_words design from ++ timed unit s (codes ": leaves at ") leaves
    ++ timed unit s takes travel ++ timed unit s (codes ", so comes at ") (leaves +ℤ travel)

-- the words for the edge of an element's phase: a flop's starts it, a latch's ends it
abbrev pub edge_word : Bool → List ℕ
edge_word flop = if flop then codes " starts at " else codes " ends at "

-- the name of an element's phase, and when its edge comes
abbrev pub edge_text : Design → Schedule → Unit → ℕ → ℤ → List ℕ
edge_text design s unit l edge =
    timed unit s (phase_name design (phase_of design l) ++ edge_word (element_at design l).flop) edge

-- by when data is wanted, for an edge at this time
abbrev pub wanted_line : Design → Schedule → Unit → ℕ → ℤ → List ℕ
wanted_line design s unit l edge =
    timed unit s (codes "         wanted by ") (edge -ℤ setup_of design s l)
    ++ timed unit s (codes ", which is ") (setup_of design s l) ++ codes " before " ++ edge_text design s unit l edge

-- from when on other data is wanted
abbrev pub held_line : Design → Schedule → Unit → ℕ → ℤ → List ℕ
held_line design s unit l edge =
    timed unit s (codes "         wanted from ") (edge +ℤ hold_of design s l)
    ++ timed unit s (codes " on, which is ") (hold_of design s l) ++ codes " after " ++ edge_text design s unit l edge

-- whether this pair's data makes an element late: at a latch, whether it comes when the latch is open or later
abbrev pub is_data : Timing → Schedule → List ℤ → ℕ → ℕ → Bool
is_data t s d l n = (element_at t.flat l).flop || int_le (there t.flat s d l) (coming_late t s d n)

-- what a latch does that is late by itself
abbrev pub opening_lines : Timing → Schedule → List ℤ → Unit → ℕ → List (List ℕ)
opening_lines t s d unit l =
    (timed unit s (codes "         it lets data in from ") (there t.flat s d l) ++ codes " on") ∷
    wanted_line t.flat s unit l (edge_of t.flat s l) ∷ []

-- the cause of a late setup
abbrev pub late_lines : Timing → Schedule → List ℤ → Unit → ℕ → Option ℕ → List (List ℕ)
late_lines t s d unit l None = opening_lines t s d unit l
late_lines t s d unit l (Some n) =
    if is_data t s d l n then
    source_line t.flat s unit (pair_at t n).from (codes " and takes ") (leaving t s d n) (longest t s n) ∷
    wanted_line t.flat s unit l (edge_of t.flat s l +ℤ turning t s n) ∷ []
    else opening_lines t s d unit l

-- a setup that fails, by the pair whose data comes last
abbrev pub setup_lines : Timing → Schedule → List ℤ → Unit → ℕ → ℤ → Option ℕ → List (List ℕ)
setup_lines t s d unit l amount latest =
    (measured unit s (about (codes "  setup  ") (element_in_words t.flat l) (codes " gets its data ")) amount
    ++ codes " too late") ∷ late_lines t s d unit l latest

-- The cause of a hold that fails. Its data leaves in the cycle in which it is caught by a phase that has not ended, so
-- that the edge is that of the first cycle.
abbrev pub soon_lines : Timing → Schedule → List ℤ → Unit → ℕ → Option ℕ → List (List ℕ)
soon_lines t s d unit l None = []
soon_lines t s d unit l (Some n) =
    source_line t.flat s unit (pair_at t n).from (codes " and takes only ")
    (leaving t s d n +ℤ s.cycle -ℤ turning t s n) (shortest t s n) ∷
    held_line t.flat s unit l (edge_of t.flat s l) ∷ []

-- a hold that fails, by the pair whose data comes first
abbrev pub hold_lines : Timing → Schedule → List ℤ → Unit → ℕ → ℤ → Option ℕ → List (List ℕ)
hold_lines t s d unit l amount earliest =
    (measured unit s (about (codes "  hold   ") (element_in_words t.flat l) (codes " gets its next data ")) amount
    ++ codes " too soon") ∷ soon_lines t s d unit l earliest

-- how long data of a pair has from phase to phase
abbrev pub given : Timing → Schedule → ℕ → ℤ
given t s n = neg_ℤ (shift_of s (phase_of t.flat (pair_at t n).from) (phase_of t.flat (pair_at t n).to))

-- a pair of a loop: how long its data takes, and how long it has
abbrev pub lap_line : Timing → Schedule → Unit → ℕ → List ℕ
lap_line t s unit n =
    about (codes "         ") (element_name t.flat (pair_at t n).from) (codes " to ")
    ++ timed unit s (element_name t.flat (pair_at t n).to ++ codes " takes ") (longest t s n)
    ++ timed unit s (codes ", and has ") (given t s n)

-- the name of the element at which a loop begins
abbrev pub first_name : Timing → List ℕ → List ℕ
first_name t [] = []
first_name t (n ∷ ring) = element_name t.flat (pair_at t n).from

-- an arrow to the second element of a pair
abbrev pub arrow_to : Timing → ℕ → List ℕ
arrow_to t n = codes " -> " ++ element_name t.flat (pair_at t n).to

-- data that comes later each time round
abbrev pub loop_lines : Timing → Schedule → Unit → List ℕ → ℤ → List (List ℕ)
loop_lines t s unit ring amount =
    (measured unit s (codes "  loop   data comes ") amount ++ codes " later each time round " ++ first_name t ring
    ++ flat_map (arrow_to t) ring) ∷
    map (lap_line t s unit) ring ++
    codes "         no data settles, so setups and holds can't be judged" ∷ []
