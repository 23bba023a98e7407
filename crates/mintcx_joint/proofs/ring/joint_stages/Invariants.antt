use Rattle.std.proofs.Common.{◌≡◌, map, take}
use Rattle.std.specs.Prelude.{All}
use Rattle.mintcx_chain.specs.Names.{IsShort}
use Rattle.mintcx_joint.specs.Shown.{joint_stage}
use Rattle.mintcx_joint.proofs.ring.joint_stages.Given as goal

-- the stages of the members so far
abbrev pub invariant-loop-member : goal.invariant-loop-member
invariant-loop-member l = record {
  value : l.stages.items ≡ map (joint_stage l.systems) (take l.member-index l.members);
  short : All IsShort l.stages.items;
}
