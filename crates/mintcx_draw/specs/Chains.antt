-- Chains as they are drawn, in their ranges.
use Rattle.std.specs.Prelude.{◌≤◌, pos, negsuc, ◌≤ℤ◌, length}
use Rattle.mintcx_chart.specs.Sheets.{IsSheet}
use Rattle.mintcx_draw.specs.declared.chain.Chain.{Chain}

-- A chain that is drawn is in its ranges.
pub record IsChain (chain : Chain) : Type 0 where
  pub sheet : IsSheet chain.sheet
  pub bars : chain.bars ≤ length chain.sheet.lanes.now
  pub least : negsuc 131071999999999 ≤ℤ chain.sums.delay
  pub greatest : chain.sums.delay ≤ℤ pos 131072000000000
