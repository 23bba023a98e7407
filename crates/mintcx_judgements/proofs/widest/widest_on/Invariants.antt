use Rattle.std.proofs.Common.{◌≡◌, ◌<◌}
use Rattle.std.specs.Prelude.{IfSome}
use Rattle.std.specs.List.{range_with_len}
use Rattle.mintc_timing.specs.Design.{element_count}
use Rattle.mintcx_judgements.specs.Rules.{widest_on}
use Rattle.mintcx_judgements.proofs.widest.widest_on.Given as goal

-- the widest of the elements so far
abbrev pub invariant-loop-number : goal.invariant-loop-number
invariant-loop-number l = record {
  value : l.best ≡ widest_on l.told.system.now.flat l.phase (range_with_len 0 l.number);
  inside : IfSome l.best (λ k. k < element_count l.told.system.now.flat);
}
