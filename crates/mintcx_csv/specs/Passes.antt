-- The table of a pass.
use Rattle.std.specs.Prelude.{ℕ, ℤ, List, [], ◌∷◌, codes, map, Option, Some, None}
use Rattle.mintc_text.specs.Lines.{numeral_of}
use Rattle.mintc_timing.specs.declared.clocking.Schedule.{Schedule}
use Rattle.mintc_timing.specs.Departures.{departure}
use Rattle.mintc_timing.specs.Design.{Timing}
use Rattle.mintcx_frame.specs.Names.{element_name, kind_on_phase}
use Rattle.mintcx_judgements.specs.Passes.{AreByRoom, hold_room, setup_room}
use Rattle.mintcx_csv.specs.Tables.{IsTable, shown_over}

-- the head line
abbrev pub pass_fields : List (List ℕ)
pass_fields =
    codes "element" ∷ codes "on" ∷ codes "late" ∷ codes "early" ∷ codes "setup" ∷ codes "hold" ∷ codes "den" ∷ []

-- a room, empty where there is none
abbrev pub room_field : Option ℤ → List ℕ
room_field (Some room) = numeral_of room
room_field None = []

-- the row of an element: its name, its kind and phase, when data leaves it at the latest and at the earliest, counted
-- from the start of its phase, and the room that its setup and its hold leave, in femtoseconds times den
abbrev pub pass_record : Timing → Schedule → List ℤ → List ℤ → ℕ → List (List ℕ)
pass_record t s late early l =
    element_name t.flat l ∷ kind_on_phase t.flat l ∷ numeral_of (departure late l) ∷ numeral_of (departure early l) ∷
    room_field (setup_room t s late l) ∷ room_field (hold_room t s early l) ∷ numeral_of s.den ∷ []

-- the rows of elements, in the order of their places
abbrev pub pass_records : Timing → Schedule → List ℤ → List ℤ → List (ℕ × ℤ × ℕ) → List (List (List ℕ))
pass_records t s late early places =
    shown_over s.den 6 pass_fields ∷
    map (λ (place : ℕ × ℤ × ℕ). shown_over s.den 6 (pass_record t s late early place.2)) places

-- The text is the table of a pass with these departures, the least room of a setup first.
abbrev pub IsPassTable : Timing → Schedule → List ℤ → List ℤ → List ℕ → Type 0
IsPassTable t s late early text =
    (places : List (ℕ × ℤ × ℕ)) × AreByRoom t s late places × IsTable (pass_records t s late early places) text
