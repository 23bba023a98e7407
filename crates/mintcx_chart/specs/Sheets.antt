-- What is drawn, in its ranges.
use Rattle.std.specs.Prelude.{◌≤◌, length, All}
use Rattle.mintc_timing.specs.Limits.{IsDenominator, IsNumerator}
use Rattle.mintcx_chain.specs.Names.{IsStageDelay}
use Rattle.mintcx_picture.specs.Places.{IsScale}
use Rattle.mintcx_chart.specs.declared.lanes.Lane.{Lane}
use Rattle.mintcx_chart.specs.declared.sheet.Beam.{Beam}
use Rattle.mintcx_chart.specs.declared.sheet.Sheet.{Sheet}
use Rattle.mintcx_chart.specs.declared.waves.Wave.{Wave}
use Rattle.mintcx_chart.specs.Ranges.{IsAcross, IsCycle, IsDrawnTime, IsHeight, IsLaps}

-- A row is in its ranges.
pub record IsLane (lane : Lane) : Type 0 where
  pub at : IsDrawnTime lane.at
  pub ends : IsDrawnTime lane.ends
  pub start : IsNumerator lane.start
  pub width : IsNumerator lane.width
  pub setup : IsStageDelay lane.setup
  pub lap : IsLaps lane.lap
  pub top : IsHeight lane.top

-- A phase is in its ranges.
pub record IsWave (wave : Wave) : Type 0 where
  pub start : IsNumerator wave.start
  pub width : IsNumerator wave.width

-- What is drawn is in its ranges.
pub record IsSheet (sheet : Sheet) : Type 0 where
  pub lanes : All IsLane sheet.lanes.now
  pub waves : All IsWave sheet.waves.now
  pub few : length sheet.waves.now ≤ 8
  pub scale : IsScale sheet.scale
  pub den : IsDenominator sheet.den
  pub cycle : IsCycle sheet.cycle
  pub foot : sheet.foot ≤ 3000
  pub below : 138 ≤ sheet.foot

-- A beam is in its ranges.
pub record IsBeam (beam : Beam) : Type 0 where
  pub from : IsAcross beam.from
  pub to : IsAcross beam.to
  pub y : beam.y ≤ 5000
