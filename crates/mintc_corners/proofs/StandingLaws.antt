-- The member that stands for a joint link.
use Rattle.std.proofs.Common.{◌≡◌, ℕ, ◌<◌, ◌≤◌, ◌*◌, List, ◌∷◌, length, arith, ap, ◌∙◌, sym, subst}
use Rattle.std.specs.List.{Contains}
use Rattle.mintc_timing.specs.declared.link.Link.{Link}
use Rattle.mintc_timing.specs.declared.parts.Bound.{Bound}
use Rattle.mintc_timing.specs.Design.{Timing, phase_count}
use Rattle.mintc_timing.specs.Limits.{IsPhase}
use Rattle.mintc_timing.specs.Links.{links_of}
use Rattle.mintc_timing.specs.Paths.{greatest_delay}
use Rattle.mintc_certificate.specs.declared.members.Member.{Member}
use Rattle.mintc_certificate.specs.declared.members.Member.TheVariants as member
use Rattle.mintc_certificate.specs.Valid.{IsMember, link_of}
use Rattle.mintc_optimise.specs.Making.{StandsFor as StandsForOwn}
use Rattle.mintc_optimise.proofs.SharedStandingLaws.{slowest}
use Rattle.mintc_corners.specs.Lifted.{lifted_link, widest}
use Rattle.mintc_corners.specs.CornerOptimum.{IsOfCorner, corner_of, link_of_corner}
use Rattle.mintc_corners.specs.Joined.{StandsFor, corner_number}
use Rattle.mintc_corners.specs.Joint.{AreCorners, side_by_side}
use Rattle.mintc_corners.specs.Laws.{AreBeside, AreSystems}
use Rattle.mintc_corners.proofs.LiftLaws.{clock_is, elements_before, fed_in_all, in_all, opening_is, opened_is, own_design, own_kept, reach_is, same_bounds, same_phases, setup_is}
use Rattle.mintc_corners.proofs.SharedPlaceLaws.{before_is}

module _ (t : Timing) (ts : List Timing) (are : AreCorners (t ∷ ts)) (systems : AreSystems (t ∷ ts)) (besides : AreBeside t ts) (few : length ts ≤ 3) (c : ℕ) (below : c < length (t ∷ ts)) where
  abbrev big : Timing
  big = side_by_side t ts

  abbrev own : Timing
  own = corner_of t ts c

  abbrev joint_link : Link → Link
  joint_link = lifted_link (widest (t ∷ ts)) (2 * phase_count t.flat) (elements_before (t ∷ ts) c)

  -- what a member stands for in all corners
  lifted_member : (m : Member) → IsMember own m → link_of_corner t ts (corner_number c m) m ≡ joint_link (link_of own.flat m)
  lifted_member (member.Opening l) h = rw (sym (before_is t ts c are below)) (opening_is t ts are systems besides c below l h)
  lifted_member (member.Opened l) h = rw (sym (before_is t ts c are below)) (opened_is t ts are systems besides c below l h.0)
  lifted_member (member.Reach j l path) h = rw (sym (before_is t ts c are below)) (reach_is t ts are systems besides c below j l (greatest_delay own.flat.arcs path) h.0 h.1)
  lifted_member (member.Setup l) h = rw (sym (before_is t ts c are below)) (setup_is t ts are systems besides c below l h)
  lifted_member (member.Start p) h = clock_is t ts are systems besides c below (member.Start p) tt h
  lifted_member (member.Cycle p) h = clock_is t ts are systems besides c below (member.Cycle p) tt h
  lifted_member (member.Order p) h = clock_is t ts are systems besides c below (member.Order p) tt h
  lifted_member (member.Span p) h = clock_is t ts are systems besides c below (member.Span p) tt h
  lifted_member (member.Width p) h = clock_is t ts are systems besides c below (member.Width p) tt h
  lifted_member (member.Apart i j) h = clock_is t ts are systems besides c below (member.Apart i j) tt h
  lifted_member (member.Bound n) h = clock_is t ts are systems besides c below (member.Bound n) tt h

  phase_named : (p : ℕ) → IsPhase (phase_count own.flat) p → IsPhase (phase_count big.flat) p
  phase_named = in_all t ts are systems besides c below

  -- and that it names what its corner has
  named : (k : Link) (m : Member) → Contains (links_of own) k → link_of own.flat m ≡ k → IsMember own m → IsOfCorner t ts (corner_number c m) m
  named k (member.Start p) listed same h = (tt, phase_named p h)
  named k (member.Cycle p) listed same h = (tt, phase_named p h)
  named k (member.Order p) listed same h = (tt, (h.0, let one = same_phases t ts are systems besides c below in let high = h.1 in omega arith))
  named k (member.Span p) listed same h = (tt, phase_named p h)
  named k (member.Width p) listed same h = (tt, phase_named p h)
  named k (member.Apart i j) listed same h = (tt, (phase_named i h.0, phase_named j h.1, fed_in_all t ts are systems besides c below i j h.2))
  named k (member.Opening l) listed same h = (below, (h, λ none. none))
  named k (member.Opened l) listed same h = (below, (h, λ none. none))
  named k (member.Reach j l path) listed same h = (below, (h, slowest own (own_design t ts are systems besides c below) (own_kept t ts are systems besides c below) k j l path listed same))
  named k (member.Setup l) listed same h = (below, (h, λ none. none))
  named k (member.Bound n) listed same h = (tt, subst (λ (bs : List Bound). n < length bs) (same_bounds t ts are systems besides c below) h)

  number-few : (m : Member) → corner_number c m ≤ 999999999
  number-few (member.Opening l) = omega arith
  number-few (member.Opened l) = omega arith
  number-few (member.Reach j l path) = omega arith
  number-few (member.Setup l) = omega arith
  number-few m = omega arith

  pub standing_for : (k : Link) (m : Member) → Contains (links_of own) k → StandsForOwn own k m → StandsFor (t ∷ ts) (joint_link k) (record { corner = corner_number c m; member = m })
  standing_for k m listed h = record {
    member = named k m listed h.same h.member;
    same = lifted_member m h.member ∙ ap joint_link h.same;
    counted = (number-few m, h.counted);
  }
