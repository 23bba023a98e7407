-- The rows of a chain that are drawn.
use Rattle.std.specs.Prelude.{◌≡◌, ◌≤◌, ◌+◌, ◌-◌, ℕ, ℤ, pos, ◌+ℤ◌, ◌*ℤ◌, min, nat_le, if◌then◌else◌, IsFalse, IsTrue}
use Rattle.std.specs.Prelude.{List, [], ◌∷◌, ◌++◌, length, take, map, flat_map, All, Option, Some, None}
use Rattle.std.specs.List.{range_with_len}
use Rattle.mintc_timing.specs.declared.clocking.Schedule.{Schedule}
use Rattle.mintc_timing.specs.Clocking.{start_of, width_of}
use Rattle.mintc_timing.specs.Design.{Design, phase_of}
use Rattle.mintcx_chain.specs.declared.rows.Row.{Row}
use Rattle.mintcx_chain.specs.declared.stages.Stage.{Stage}
use Rattle.mintcx_chain.specs.Names.{element_of, from_name, IsShort, IsStage}
use Rattle.mintcx_chain.specs.Rows.{AreInTime}
use Rattle.mintcx_chain.specs.Turning.{stage_at}
use Rattle.mintcx_chart.specs.declared.lanes.Holder.{Holder}
use Rattle.mintcx_chart.specs.declared.lanes.Lane.{Lane}
use Rattle.mintcx_chart.specs.Sheets.{IsLane}
use Rattle.mintcx_chart.specs.Stretches.{is_clock, lane_times, times_of}
use Rattle.mintcx_optima.specs.Tables.{row_of}
use Rattle.mintcx_draw.specs.declared.chain.Lanes.{Lanes}
use Rattle.mintcx_draw.specs.Parts.{IsCounted}

-- a row is in one of the first cycles
abbrev pub IsSoon : Row → Type 0
IsSoon row = row.cycle ≤ 1000000

-- The stages of a chain with their rows, one for each and one for the first stage again, all in their ranges.
pub record IsStaged (design : Design) (stages : List Stage) (rows : List Row) : Type 0 where
  pub each : All (IsStage design) stages
  pub short : All IsShort stages
  pub counted : All IsCounted stages
  pub times : AreInTime rows
  pub few : All IsSoon rows
  pub one_more : length rows ≡ length stages + 1
  pub some : 1 ≤ length stages

-- how many of so many stages are drawn
abbrev pub drawn_count : List Stage → ℕ
drawn_count stages = min (length stages) 24

-- what a row says: its name, when it begins, how long it takes, in femtoseconds, and when it ends
abbrev pub lane_facts : Lane → List ℕ × ℤ × ℤ × ℤ
lane_facts lane = (lane.name, lane.at, lane.delay, lane.ends)

-- the same of a stage that begins when a row says, over the schedule's denominator
abbrev pub stage_facts : Design → ℤ → Stage → Row → List ℕ × ℤ × ℤ × ℤ
stage_facts design den stage row = (from_name design stage, row.at, stage.delay, row.at +ℤ stage.delay *ℤ den)

-- the same of the stage of a number
abbrev pub facts_at : Design → ℤ → List Stage → List Row → ℕ → List ℕ × ℤ × ℤ × ℤ
facts_at design den stages rows n = stage_facts design den (stage_at stages n) (row_of rows n)

-- The first so many rows are those of the first stages, in their order.
abbrev pub AreOfStages : Design → ℤ → List Stage → List Row → ℕ → List Lane → Type 0
AreOfStages design den stages rows n lanes =
    map lane_facts (take n lanes) ≡ map (facts_at design den stages rows) (range_with_len 0 n)

-- when the phase of an element starts, so many cycles on
abbrev pub opening_of : Design → Schedule → ℤ → ℕ → ℤ
opening_of design s laps l = start_of s (phase_of design l) +ℤ laps *ℤ s.cycle

-- the same and when that phase ends, where a stage begins at an element
abbrev pub window_times : Design → Schedule → ℤ → Option ℕ → List ℤ
window_times design s laps (Some l) =
    opening_of design s laps l ∷ (opening_of design s laps l +ℤ width_of s (phase_of design l)) ∷ []
window_times design s laps None = []

-- The times that the row of a stage shows: when it begins, and when the phase of its element starts and ends in the
-- cycle of the row.
abbrev pub stage_times : Design → Schedule → Stage → Row → List ℤ
stage_times design s stage row = row.at ∷ window_times design s (pos (row.cycle - 1)) (element_of stage.why)

-- the same of the stage of a number
abbrev pub times_at : Design → Schedule → List Stage → List Row → ℕ → List ℤ
times_at design s stages rows n = stage_times design s (stage_at stages n) (row_of rows n)

-- those of the first stages
abbrev pub first_times : Design → Schedule → List Stage → List Row → ℕ → List ℤ
first_times design s stages rows n = flat_map (times_at design s stages rows) (range_with_len 0 n)

-- those of the first stage again, behind all others
abbrev pub again_times : Design → Schedule → List Stage → List Row → List ℤ
again_times design s stages rows =
    stage_times design s (stage_at stages 0) (row_of rows (length stages))

-- The times that a picture shows: those of its first stages, and of the first one again where these are all.
abbrev pub shown_times : Design → Schedule → List Stage → List Row → List ℤ
shown_times design s stages rows = first_times design s stages rows (drawn_count stages)
    ++ (if nat_le (length stages) 24 then again_times design s stages rows else [])

-- What a row needs is that of the element that a stage begins at, if any.
abbrev pub IsHolder : Design → Schedule → Option ℕ → Holder → Type 0
IsHolder design s (Some l) holder = IsFalse (is_clock holder.kind)
    × (holder.start ≡ start_of s (phase_of design l)) × (holder.width ≡ width_of s (phase_of design l))
IsHolder design s None holder = IsTrue (is_clock holder.kind)

-- The rows of the first stages, and how high they end.
pub record AreFirst (design : Design) (s : Schedule) (stages : List Stage) (rows : List Row) (shown : Lanes)
    : Type 0 where
  pub each : All IsLane shown.lanes.items
  pub count : length shown.lanes.items ≡ drawn_count stages
  pub facts : map lane_facts shown.lanes.items
      ≡ map (facts_at design s.den stages rows) (range_with_len 0 (drawn_count stages))
  pub times : times_of s.cycle shown.lanes.items ≡ first_times design s stages rows (drawn_count stages)
  pub least : 138 ≤ shown.below
  pub most : shown.below ≤ 1818

-- These rows with one more that shows these times, and how high they end then.
pub record HasOneMore (cycle : ℤ) (times : List ℤ) (old new : Lanes) : Type 0 where
  pub more : (lane : Lane) × IsLane lane × (lane_times cycle lane ≡ times)
      × (new.lanes.items ≡ old.lanes.items ++ lane ∷ [])
  pub least : old.below ≤ new.below
  pub most : new.below ≤ old.below + 58

-- The rows of a chain, and how high they end.
pub record AreAll (design : Design) (s : Schedule) (stages : List Stage) (rows : List Row) (shown : Lanes)
    : Type 0 where
  pub each : All IsLane shown.lanes.items
  pub count : drawn_count stages ≤ length shown.lanes.items
  pub facts : AreOfStages design s.den stages rows (drawn_count stages) shown.lanes.items
  pub times : times_of s.cycle shown.lanes.items ≡ shown_times design s stages rows
  pub least : 138 ≤ shown.below
  pub most : shown.below ≤ 1876
