-- The stages of members of the clock lead between nodes of the design.
use Rattle.std.proofs.Common.{◌≡◌, ◌<◌, [], arith, ap, ◌∙◌, refl}
use Rattle.std.specs.Prelude.{All}
use Rattle.std.proofs.lemmas.List.Elements.{All-nil}
use Rattle.mintc_timing.specs.declared.link.Link.{Link}
use Rattle.mintc_timing.specs.declared.parts.Point.{Point}
use Rattle.mintc_timing.specs.declared.parts.Point.TheVariants as point
use Rattle.mintc_timing.specs.Design.{Design, element_count, phase_count}
use Rattle.mintc_timing.specs.Limits.{IsDesign, IsPoint}
use Rattle.mintc_timing.specs.Links.{node_count, point_node}
use Rattle.mintc_certificate.specs.declared.members.Member.{Member}
use Rattle.mintc_certificate.specs.declared.members.Member.TheVariants as member
use Rattle.mintc_certificate.specs.Valid.{IsNamed, link_of, no_bound}
use Rattle.mintc_corners.specs.CornerOptimum.{IsOfClock}
use Rattle.mintcx_chain.specs.declared.stages.Stage.{Stage}
use Rattle.mintcx_chain.specs.declared.stages.Why.TheVariants.{Rule}
use Rattle.mintcx_chain.specs.Names.{IsStage}
use Rattle.mintcx_chain.specs.Stages.{stage_of}

-- a link as a stage of a rule
abbrev pub ruled : Link → Stage
ruled k = record { from = k.from; to = k.to; delay = k.delay; cycles = k.cycles; why = Rule k.kind }

ruled_is : (design : Design) (m : Member) → IsOfClock m → ruled (link_of design m) ≡ stage_of design m
ruled_is design (member.Start p) h = refl
ruled_is design (member.Cycle p) h = refl
ruled_is design (member.Order p) h = refl
ruled_is design (member.Span p) h = refl
ruled_is design (member.Width p) h = refl
ruled_is design (member.Apart i j) h = refl
ruled_is design (member.Opening l) h = absurd h
ruled_is design (member.Opened l) h = absurd h
ruled_is design (member.Reach j l path) h = absurd h
ruled_is design (member.Setup l) h = absurd h
ruled_is design (member.Bound n) h = refl

-- of a member of the clock it is the stage
pub clock_stage_is : (design : Design) (m : Member) (k : Link) → IsOfClock m → k ≡ link_of design m → ruled k ≡ stage_of design m
clock_stage_is design m k h is = ap ruled is ∙ ruled_is design m h

module _ (design : Design) (limits : IsDesign design) where
  none : All (λ l. l < element_count design) []
  none = All-nil (λ l. l < element_count design)

  point_in : (x : Point) → IsPoint (phase_count design) x → point_node x < node_count design
  point_in point.Origin h = omega arith
  point_in (point.Start p) h = omega arith
  point_in (point.End p) h = omega arith

  pub clock_inside : (m : Member) → IsOfClock m → IsNamed design m → IsStage design (stage_of design m)
  clock_inside (member.Start p) c h = record { from = omega arith; to = omega arith; element = tt; elements = none }
  clock_inside (member.Cycle p) c h = record { from = omega arith; to = omega arith; element = tt; elements = none }
  clock_inside (member.Order p) c h = record { from = omega arith; to = omega arith; element = tt; elements = none }
  clock_inside (member.Span p) c h = record { from = omega arith; to = omega arith; element = tt; elements = none }
  clock_inside (member.Width p) c h = record { from = omega arith; to = omega arith; element = tt; elements = none }
  clock_inside (member.Apart i j) c h = record { from = omega arith; to = omega arith; element = tt; elements = none }
  clock_inside (member.Opening l) c h = absurd c
  clock_inside (member.Opened l) c h = absurd c
  clock_inside (member.Reach j l path) c h = absurd c
  clock_inside (member.Setup l) c h = absurd c
  clock_inside (member.Bound n) c h =
      let bound = limits.each_bound n no_bound h in
      record { from = point_in _ bound.from; to = point_in _ bound.to; element = tt; elements = none }
