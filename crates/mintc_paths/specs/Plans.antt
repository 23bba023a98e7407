-- What all blocks of a design have in common.
use Rattle.std.specs.Prelude.{◌≡◌, ℕ, length}
use Rattle.std.specs.Bool.{OnTrue}
use Rattle.mintc_timing.specs.Order.{ArePathsShort}
use Rattle.mintc_paths.specs.declared.blocks.Plan.{Plan}
use Rattle.mintc_paths.specs.Ordered.{Ordered, IsSequenceOf}

-- The sequence is over so many rows and of the design, with as many elements, where no path is too long if that is
-- known.
pub record IsPlanOf (n : ℕ) (of : Ordered) (plan : Plan) : Type 0 where
  pub is_sequence : IsSequenceOf n of plan.sequence.now
  pub elements : plan.elements ≡ length of.design.elements
  pub known : OnTrue plan.known_short (ArePathsShort of.design)
