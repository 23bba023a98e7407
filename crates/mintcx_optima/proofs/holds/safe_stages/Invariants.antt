use Rattle.std.proofs.Common.{◌≡◌, map, take}
use Rattle.std.specs.Prelude.{All}
use Rattle.mintcx_chain.specs.Names.{IsShort, IsStage}
use Rattle.mintcx_optima.specs.Safe.{safe_stage}
use Rattle.mintcx_optima.proofs.holds.safe_stages.Given as goal

-- the stages of the members so far
abbrev pub invariant-loop-member : goal.invariant-loop-member
invariant-loop-member l = record {
  value : l.stages.items ≡ map (safe_stage l.system.flat) (take l.member-index l.members);
  each : All (IsStage l.system.flat) l.stages.items;
  short : All IsShort l.stages.items;
}
