-- What is drawn of a chain, by its rows and their scale.
use Rattle.std.proofs.Common.{◌≡◌, ℕ, ℤ, pos, ◌≤ℤ◌, ◌<◌, ◌≤◌, List, Option, Some, None, length, min, slice_index_or, arith, ap, ◌∙◌, subst, sym}
use Rattle.mintc_timing.specs.declared.clocking.Schedule.{Schedule}
use Rattle.mintc_timing.specs.Design.{Design}
use Rattle.mintcx_amounts.specs.declared.unit.Unit.{Unit as UnitOfTime}
use Rattle.mintcx_chain.specs.declared.rows.Row.{Row}
use Rattle.mintcx_chain.specs.declared.stages.Stage.{Stage}
use Rattle.mintc_timing.specs.Limits.{IsDenominator, IsNumerator}
use Rattle.mintcx_chain.specs.Rows.{rows_of, AreInTime, IsChainTime}
use Rattle.mintcx_chart.specs.Ranges.{IsCycle}
use Rattle.mintcx_picture.specs.declared.drawn.Drawn.TheVariants.{Picture, TooLong}
use Rattle.mintcx_picture.specs.declared.scale.Scale.{Scale}
use Rattle.mintcx_picture.specs.Places.{IsScale}
use Rattle.mintcx_chart.specs.declared.lanes.Lane.{Lane}
use Rattle.mintcx_chart.specs.Stretches.{IsShown, greatest_of, least_of, times_of}
use Rattle.mintcx_draw.specs.declared.chain.Lanes.{Lanes}
use Rattle.mintcx_draw.specs.Drawings.{IsDrawnChain, IsOfRows, IsScaleOf, next_time}
use Rattle.mintcx_draw.specs.Lanes.{drawn_count, shown_times, AreAll, AreOfStages}
use Rattle.mintcx_optima.specs.Tables.{no_row}
use Rattle.mintcx_draw.proofs.ChainLaws.{rows_count}
use Rattle.mintcx_draw.proofs.WideLaws.{read_chain, read_cycle, read_den, short, wide}

-- when what follows the last row begins
pub next_in_time : (design : Design) (s : Schedule) (d : List ℤ) (stages : List Stage) (rows : List Row) (k : ℕ) → rows ≡ rows_of design s d stages → AreInTime rows →
    k ≡ min (length stages) 24 → IsChainTime (slice_index_or rows k no_row).at
next_in_time design s d stages rows k same times is =
    times k no_row (omega (arith, is, ap (λ (v : List Row). length v) same, rows_count design s d stages))

pub next_read : (stages : List Stage) (rows others : List Row) (k : ℕ) → others ≡ rows → k ≡ min (length stages) 24 → IsChainTime (slice_index_or others k no_row).at →
    wide (slice_index_or others k no_row).at ≡ next_time stages rows
next_read stages rows others k same is time =
    read_chain (slice_index_or others k no_row).at time ∙ ap (λ (v : List Row). (slice_index_or v k no_row).at) same
    ∙ ap (λ (n : ℕ). (slice_index_or rows n no_row).at) is

-- a cycle time that is drawn
pub cycle_in : (cycle : ℤ) → pos 1 ≤ℤ cycle → IsNumerator cycle → IsCycle cycle
cycle_in cycle some h = (some, h.1)

-- a scale by numbers as they are read from machine words
pub shown_as : (den cycle next : ℤ) (lanes items : List Lane) (scale : Option Scale) → IsDenominator den → IsCycle cycle → lanes ≡ items →
    IsShown (short den) (short cycle) (least_of next (times_of (short cycle) lanes)) (greatest_of next (times_of (short cycle) lanes)) scale →
    IsShown den cycle (least_of next (times_of cycle items)) (greatest_of next (times_of cycle items)) scale
shown_as den cycle next lanes items scale some cycles same h =
    subst (λ (v : List Lane). IsShown den cycle (least_of next (times_of cycle v)) (greatest_of next (times_of cycle v)) scale) same
    (subst (λ (v : ℤ). IsShown den v (least_of next (times_of v lanes)) (greatest_of next (times_of v lanes)) scale) (read_cycle cycle cycles)
    (subst (λ (v : ℤ). IsShown v (short cycle) (least_of next (times_of (short cycle) lanes)) (greatest_of next (times_of (short cycle) lanes)) scale) (read_den den some) h))

module _ (design : Design) (s : Schedule) (d : List ℤ) (stages : List Stage) (rows : List Row) (shown : Lanes) (next : ℤ)
    (same : rows ≡ rows_of design s d stages) (all : AreAll design s stages rows shown) (next_is : next ≡ next_time stages rows) where
  -- the scale of the rows shows what the chain's has to
  scale_of_chain : (scale : Option Scale) →
      IsShown s.den s.cycle (least_of next (times_of s.cycle shown.lanes.items)) (greatest_of next (times_of s.cycle shown.lanes.items)) scale →
      IsScaleOf design s stages (rows_of design s d stages) scale
  scale_of_chain scale h =
      let timed = subst (λ (v : List ℤ). IsShown s.den s.cycle (least_of next v) (greatest_of next v) scale) all.times h in
      let begun = subst (λ (v : ℤ). IsShown s.den s.cycle (least_of v (shown_times design s stages rows)) (greatest_of v (shown_times design s stages rows)) scale) next_is timed in
      subst (λ (v : List Row). IsScaleOf design s stages v scale) same begun

  pub picture_drawn : pos 1 ≤ℤ s.cycle → (scale : Scale) (unit : UnitOfTime) (text : List ℕ) → IsScale scale →
      IsShown s.den s.cycle (least_of next (times_of s.cycle shown.lanes.items)) (greatest_of next (times_of s.cycle shown.lanes.items)) (Some scale) →
      IsOfRows scale unit (drawn_count stages) shown.lanes.items text → IsDrawnChain design s d stages (Picture text)
  picture_drawn cycle scale unit text is h of =
      let named = subst (λ (v : List Row). AreOfStages design s.den stages v (drawn_count stages) shown.lanes.items) same all.facts in
      (cycle, (scale, unit, shown.lanes.items, is, scale_of_chain (Some scale) h, named, of))

  pub too_long_drawn : pos 1 ≤ℤ s.cycle →
      IsShown s.den s.cycle (least_of next (times_of s.cycle shown.lanes.items)) (greatest_of next (times_of s.cycle shown.lanes.items)) None →
      IsDrawnChain design s d stages TooLong
  too_long_drawn cycle h = (cycle, scale_of_chain None h)
