-- The stages of members lead between nodes of the design.
use Rattle.std.proofs.Common.{ℕ, ◌<◌, Bool, true, false, [], ◌∷◌, if◌then◌else◌, arith}
use Rattle.std.specs.Prelude.{All}
use Rattle.std.proofs.lemmas.List.Elements.{All-nil, All-cons}
use Rattle.mintc_timing.specs.declared.parts.Point.{Point}
use Rattle.mintc_timing.specs.declared.parts.Point.TheVariants as point
use Rattle.mintc_timing.specs.Design.{Timing, element_at, element_count, no_element, phase_count, phase_of}
use Rattle.mintc_timing.specs.Limits.{IsDesign, IsPhase, IsPoint}
use Rattle.mintc_timing.specs.Links.{element_node, end_node, node_count, point_node, start_node}
use Rattle.mintc_certificate.specs.declared.members.Member.{Member}
use Rattle.mintc_certificate.specs.declared.members.Member.TheVariants as member
use Rattle.mintc_certificate.specs.Valid.{IsMember, no_bound}
use Rattle.mintcx_chain.specs.Names.{IsStage}
use Rattle.mintcx_chain.specs.Stages.{stage_of}

choice_below : (b : Bool) (x y n : ℕ) → x < n → y < n → (if b then x else y) < n
choice_below true x y n h g = h
choice_below false x y n h g = g

module _ (t : Timing) (limits : IsDesign t.flat) where
  abbrev Below : ℕ → Type 0
  Below l = l < element_count t.flat

  phase_in : (l : ℕ) → l < element_count t.flat → IsPhase (phase_count t.flat) (phase_of t.flat l)
  phase_in l below = (limits.each_element l no_element below).phase

  start_in : (l : ℕ) → l < element_count t.flat → start_node (phase_of t.flat l) < node_count t.flat
  start_in l below = let phase = phase_in l below in omega arith

  end_in : (l : ℕ) → l < element_count t.flat → end_node (phase_of t.flat l) < node_count t.flat
  end_in l below = let phase = phase_in l below in omega arith

  none : All Below []
  none = All-nil Below

  one : (l : ℕ) → l < element_count t.flat → All Below (l ∷ [])
  one l h = All-cons Below l [] h none

  two : (j l : ℕ) → j < element_count t.flat → l < element_count t.flat → All Below (j ∷ l ∷ [])
  two j l h g = All-cons Below j (l ∷ []) h (one l g)

  point_in : (x : Point) → IsPoint (phase_count t.flat) x → point_node x < node_count t.flat
  point_in point.Origin h = omega arith
  point_in (point.Start p) h = omega arith
  point_in (point.End p) h = omega arith

  pub stage_inside : (m : Member) → IsMember t m → IsStage t.flat (stage_of t.flat m)
  stage_inside (member.Start p) h = record { from = omega arith; to = omega arith; element = tt; elements = none }
  stage_inside (member.Cycle p) h = record { from = omega arith; to = omega arith; element = tt; elements = none }
  stage_inside (member.Order p) h = record { from = omega arith; to = omega arith; element = tt; elements = none }
  stage_inside (member.Span p) h = record { from = omega arith; to = omega arith; element = tt; elements = none }
  stage_inside (member.Width p) h = record { from = omega arith; to = omega arith; element = tt; elements = none }
  stage_inside (member.Apart i j) h = record { from = omega arith; to = omega arith; element = tt; elements = none }
  stage_inside (member.Opening l) h = record { from = start_in l h; to = omega arith; element = tt; elements = one l h }
  stage_inside (member.Opened l) h = record { from = start_in l h.0; to = end_in l h.0; element = tt; elements = one l h.0 }
  stage_inside (member.Reach j l path) h = record {
    from = choice_below (element_at t.flat j).flop (start_node (phase_of t.flat j)) (element_node t.flat j) (node_count t.flat) (start_in j h.0) (omega arith);
    to = omega arith;
    element = h.0;
    elements = two j l h.0 h.1;
  }
  stage_inside (member.Setup l) h = record {
    from = omega arith;
    to = choice_below (element_at t.flat l).flop (start_node (phase_of t.flat l)) (end_node (phase_of t.flat l)) (node_count t.flat) (start_in l h) (end_in l h);
    element = h;
    elements = one l h;
  }
  stage_inside (member.Bound n) h =
      let bound = limits.each_bound n no_bound h in
      record { from = point_in _ bound.from; to = point_in _ bound.to; element = tt; elements = none }
