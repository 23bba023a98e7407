use Rattle.std.proofs.Common.{◌<◌, length, take}
use Rattle.std.specs.Prelude.{All, IsFalse}
use Rattle.mintcx_chain.specs.declared.stages.Stage.{Stage}
use Rattle.mintcx_chain.specs.Turning.{comes_before, stage_at}
use Rattle.mintcx_chain.proofs.turning.beginning.Given as goal

-- no stage so far leads from a node that comes sooner
abbrev pub invariant-loop-at : goal.invariant-loop-at
invariant-loop-at l = record {
  there : l.first < length l.stages;
  first : All (λ (k : Stage). IsFalse (comes_before l.flat l.departures k.from (stage_at l.stages l.first).from)) (take l.at l.stages);
}
