use Rattle.std.proofs.Common.{◌≤◌, take}
use Rattle.std.specs.Prelude.{filter}
use Rattle.mintc_timing.specs.Design.{element_count}
use Rattle.mintcx_lint.specs.Latches.{IsInside, IsTally, joins_latches}
use Rattle.mintcx_lint.proofs.latches.tally_of.Given as goal

-- the tally of the pairs so far, and no more than these
abbrev pub invariant-loop-number : goal.invariant-loop-number
invariant-loop-number l = record {
  tallied : IsTally (filter (joins_latches l.system.flat l.storage) (take l.number l.system.pairs)) l.tally;
  few : l.tally.count ≤ l.number;
  inside : IsInside (element_count l.system.flat) l.tally;
}
