use Rattle.std.proofs.Common.{◌≡◌, length}
use Rattle.std.specs.Prelude.{All}
use Rattle.mintcx_chart.specs.Sheets.{IsWave}
use Rattle.mintcx_chart.proofs.waves.waves_of.Given as goal

-- the phases so far are in their ranges
abbrev pub invariant-loop-at : goal.invariant-loop-at
invariant-loop-at l = record {
  each : All IsWave l.waves.items;
  count : length l.waves.items ≡ l.at;
}
