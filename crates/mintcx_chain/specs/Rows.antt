-- The rows of a chain: when each stage begins, in which cycle, and what its latch borrows.
use Rattle.std.specs.Prelude.{◌≡◌, ◌+◌, ◌-◌, ℕ, ℤ, pos, negsuc, ◌+ℤ◌, ◌*ℤ◌, ◌≤ℤ◌, Bool, true, false, if◌then◌else◌}
use Rattle.std.specs.Prelude.{List, [], ◌∷◌, ◌++◌, length, take, map, All, Option, Some, None}
use Rattle.std.specs.Int.{int_max}
use Rattle.std.specs.List.{range_with_len, sum_by}
use Rattle.mintc_graph.specs.Rings.{total}
use Rattle.mintc_timing.specs.declared.clocking.Schedule.{Schedule}
use Rattle.mintc_timing.specs.Design.{Design, element_at, element_count, phase_count}
use Rattle.mintc_timing.specs.Departures.{departure}
use Rattle.mintc_timing.specs.Limits.{IsInRange}
use Rattle.mintc_timing.specs.Times.{node_time}
use Rattle.mintc_certificate.specs.Ranges.{IsDeparture}
use Rattle.mintcx_chain.specs.declared.rows.Row.{Row}
use Rattle.mintcx_chain.specs.declared.stages.Stage.{Stage}
use Rattle.mintcx_chain.specs.declared.stages.Why.{Why}
use Rattle.mintcx_chain.specs.declared.stages.Why.TheVariants.{Reach}
use Rattle.mintcx_chain.specs.Names.{element_of}
use Rattle.mintcx_chain.specs.Turning.{stage_at}

-- A schedule of the design's clock with a departure for each of its elements, all in their ranges.
pub record IsClocked (design : Design) (s : Schedule) (d : List ℤ) : Type 0 where
  pub in_range : IsInRange s
  pub phases : length s.starts ≡ phase_count design
  pub departures : All IsDeparture d
  pub elements : length d ≡ element_count design

-- whether data goes along a stage
abbrev pub is_reach : Why → Bool
is_reach (Reach j l path) = true
is_reach why = false

-- how much a latch borrows: how long after its phase starts it departs, if at all; a flop borrows nothing
abbrev pub lent : Design → List ℤ → Option ℕ → ℤ
lent design d None = pos 0
lent design d (Some l) = if (element_at design l).flop then pos 0 else int_max (pos 0) (departure d l)

-- what the element that a stage begins at borrows, where data comes to it by the stage before
abbrev pub borrowed : Design → List ℤ → Bool → Why → ℤ
borrowed design d comes why = if comes then lent design d (element_of why) else pos 0

-- The stage before the first is the last, as a chain is a ring.
abbrev pub stage_before : List Stage → ℕ → Stage
stage_before stages n = stage_at (stage_at stages (length stages - 1) ∷ stages) n

-- when stage n begins: when the first does by the schedule, and the delays of the stages between
abbrev pub begins_at : Design → Schedule → List ℤ → List Stage → ℕ → ℤ
begins_at design s d stages n = node_time design s d (stage_at stages 0).from
    +ℤ total (λ (k : Stage). k.delay) (take n stages) *ℤ s.den

-- the cycle in which stage n begins: the first one, and the cycles of the stages between
abbrev pub cycle_at : List Stage → ℕ → ℕ
cycle_at stages n = 1 + sum_by (λ (k : Stage). k.cycles) (take n stages)

-- the row of stage n
abbrev pub row_at : Design → Schedule → List ℤ → List Stage → ℕ → Row
row_at design s d stages n =
    record {
      at = begins_at design s d stages n;
      cycle = cycle_at stages n;
      borrows = borrowed design d (is_reach (stage_before stages n).why) (stage_at stages n).why;
    }

-- the last row: the first stage again, some cycles on
abbrev pub last_row : Design → Schedule → List ℤ → List Stage → Row
last_row design s d stages =
    record {
      at = begins_at design s d stages (length stages);
      cycle = cycle_at stages (length stages);
      borrows = pos 0;
    }

-- the rows of a chain: that of each stage in order, and the last row
abbrev pub rows_of : Design → Schedule → List ℤ → List Stage → List Row
rows_of design s d stages = map (row_at design s d stages) (range_with_len 0 (length stages))
    ++ last_row design s d stages ∷ []

-- a time on a chain, a numerator over the schedule's denominator
abbrev pub IsChainTime : ℤ → Type 0
IsChainTime x = (negsuc 19999999999999999999 ≤ℤ x) × (x ≤ℤ pos 20000000000000000000)

-- each row begins at such a time
abbrev pub AreInTime : List Row → Type 0
AreInTime rows = All (λ (row : Row). IsChainTime row.at) rows
