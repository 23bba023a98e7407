-- The text of a pass.
use Rattle.std.specs.Prelude.{◌≡◌, ℕ, ℤ, pos, ◌+ℤ◌, ◌-ℤ◌, List, [], ◌∷◌, ◌++◌, codes, map, take, length, if◌then◌else◌}
use Rattle.std.specs.Prelude.{Option, Some, None, option_map}
use Rattle.std.specs.List.Sorted.{IsPermutation, IsSorted}
use Rattle.mintc_fraction.specs.Ratio.{over}
use Rattle.mintc_text.specs.Lines.{ended}
use Rattle.mintc_timing.specs.declared.clocking.Schedule.{Schedule}
use Rattle.mintc_timing.specs.Design.{Timing, element_at}
use Rattle.mintc_timing.specs.Departures.{departure}
use Rattle.mintc_timing.specs.Violations.{elements_of}
use Rattle.mintcx_amounts.specs.declared.unit.Unit.{Unit}
use Rattle.mintcx_amounts.specs.Amounts.{amount_text}
use Rattle.mintcx_columns.specs.declared.cells.Column.{Column}
use Rattle.mintcx_columns.specs.Tables.{Grid, table_text}
use Rattle.mintcx_frame.specs.declared.view.View.{View}
use Rattle.mintcx_frame.specs.Ends.{head_text, foot_text, unit_for}
use Rattle.mintcx_frame.specs.Names.{element_name, kind_on_phase}
use Rattle.mintcx_frame.specs.Phases.{phases_text, left, right}
use Rattle.mintcx_frame.specs.Rows.{shown_rows, more_text}
use Rattle.mintcx_judgements.specs.Fails.{place_cmp}
use Rattle.mintcx_judgements.specs.Sources.{coming_late, coming_early, there, edge_of, setup_of, hold_of}
use Rattle.mintcx_judgements.specs.Sources.{latest_into, earliest_into}

-- how much later the data of an element could be there, its setup kept: all data of a flop, where any comes
abbrev pub setup_room : Timing → Schedule → List ℤ → ℕ → Option ℤ
setup_room t s late l =
    if (element_at t.flat l).flop
    then option_map (λ n. edge_of t.flat s l -ℤ setup_of t.flat s l -ℤ coming_late t s late n) (latest_into t s late l)
    else Some (edge_of t.flat s l -ℤ setup_of t.flat s l -ℤ there t.flat s late l)

-- how much sooner its next data could come, its hold kept, where it has one and data comes
abbrev pub hold_room : Timing → Schedule → List ℤ → ℕ → Option ℤ
hold_room t s early l =
    if (element_at t.flat l).has_hold
    then option_map (λ n. coming_early t s early n +ℤ s.cycle -ℤ edge_of t.flat s l -ℤ hold_of t.flat s l)
    (earliest_into t s early l)
    else None

-- a room as a cell, empty where there is none
abbrev pub room_cell : Unit → Schedule → Option ℤ → List ℕ
room_cell unit s None = []
room_cell unit s (Some room) = amount_text unit (over room s.den)

-- the row of an element: its rooms, its late and its early departure, its name, and what it is
abbrev pub element_row : Timing → Schedule → List ℤ → List ℤ → Unit → ℕ → List (List ℕ)
element_row t s late early unit l =
    room_cell unit s (setup_room t s late l) ∷ room_cell unit s (hold_room t s early l) ∷
    amount_text unit (over (departure late l) s.den) ∷ amount_text unit (over (departure early l) s.den) ∷
    element_name t.flat l ∷ kind_on_phase t.flat l ∷ []

-- the columns of the table of rooms
abbrev pub room_columns : List Column
room_columns = right ∷ right ∷ right ∷ right ∷ left ∷ left ∷ []

-- its first row
abbrev pub room_head : List (List ℕ)
room_head = codes "setup" ∷ codes "hold" ∷ codes "late" ∷ codes "early" ∷ codes "element" ∷ codes "on" ∷ []

-- the place of an element: those with a room for the setup come first, the least ahead
abbrev pub room_place : ℕ → Option ℤ → ℕ × ℤ × ℕ
room_place l (Some room) = (0, room, l)
room_place l None = (1, pos 0, l)

-- The places are those of all elements, in order.
pub record AreByRoom (t : Timing) (s : Schedule) (late : List ℤ) (places : List (ℕ × ℤ × ℕ)) : Type 0 where
  pub permutation : IsPermutation (map (λ l. room_place l (setup_room t s late l)) (elements_of t.flat)) places
  pub sorted : IsSorted place_cmp places

-- the table of rooms, as many rows of it as are shown
abbrev pub rooms_grid : Timing → Schedule → List ℤ → List ℤ → Unit → List (ℕ × ℤ × ℕ) → Grid
rooms_grid t s late early unit places =
    record {
      columns = room_columns;
      rows = room_head ∷ map (λ (p : ℕ × ℤ × ℕ). element_row t s late early unit p.2) places;
    }

-- what stands above the table
abbrev pub rooms_said : List ℕ
rooms_said = codes "room that each setup and each hold leaves, the least setup first:"

-- what the columns late and early say
abbrev pub rooms_note : List ℕ
rooms_note = codes "late and early are when data leaves, from the start of the phase"

-- the whole text: its head with the exact cycle, the phases, the rooms, and the unit
abbrev pub pass_text : Timing → Schedule → List ℤ → List ℤ → View → List (ℕ × ℤ × ℕ) → List ℕ
pass_text t s late early view places =
    let unit = unit_for view.unit (over s.cycle s.den) in
    head_text (codes "pass") (over s.cycle s.den) view ++ 10 ∷ [] ++ phases_text t.flat s unit ++ 10 ∷ []
    ++ ended rooms_said ++ 10 ∷ []
    ++ table_text (rooms_grid t s late early unit (take (shown_rows view.limit (length places)) places))
    ++ more_text view.limit (length places) ++ 10 ∷ [] ++ foot_text unit rooms_note

-- The text is that of a pass with these departures.
abbrev pub IsPassText : Timing → Schedule → List ℤ → List ℤ → View → List ℕ → Type 0
IsPassText t s late early view text =
    (places : List (ℕ × ℤ × ℕ)) × AreByRoom t s late places × (text ≡ pass_text t s late early view places)
