-- What is shown of a member of the chain of corners.
use Rattle.std.specs.Prelude.{◌≡◌, ℕ, List, ◌∷◌}
use Rattle.mintc_timing.specs.declared.link.Link.{Link}
use Rattle.mintc_timing.specs.Design.{Timing}
use Rattle.mintc_corners.specs.declared.members.CornerMember.{CornerMember}
use Rattle.mintc_corners.specs.CornerOptimum.{IsOfCorner, link_of_corner}
use Rattle.mintc_corners.specs.Joint.{AreCorners}
use Rattle.mintcx_chain.specs.declared.stages.Stage.{Stage}
use Rattle.mintcx_joint.specs.Shown.{joint_stage}

-- A stage takes as much time and as many cycles as a link.
pub record IsAsLong (k : Link) (stage : Stage) : Type 0 where
  pub delay : stage.delay ≡ k.delay
  pub cycles : stage.cycles ≡ k.cycles

-- The stage by which a member of some corners is shown takes as long as the member's link among those of all corners.
abbrev pub StagesAreLinks : Type 0
StagesAreLinks = (t : Timing) (ts : List Timing) (m : CornerMember) → AreCorners (t ∷ ts) →
    IsOfCorner t ts m.corner m.member → IsAsLong (link_of_corner t ts m.corner m.member) (joint_stage (t ∷ ts) m)
