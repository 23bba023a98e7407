-- Each link of a system has a member that stands for it, and a chain of links has members.
use Rattle.std.proofs.Common.{◌≡◌, ℕ, ◌<◌, ◌-ℤ◌, List, [], ◌∷◌, length, map, refl, sym, ap, ◌∙◌}
use Rattle.std.specs.List.{All, Contains}
use Rattle.std.proofs.lemmas.List.Elements.{All-nil, All-cons, All-head, All-tail, Contains-get_or}
use Rattle.mintc_timing.specs.declared.link.Link.{Link}
use Rattle.mintc_timing.specs.declared.link.LinkKind.{LinkKind}
use Rattle.mintc_timing.specs.declared.link.LinkKind.TheVariants as kind
use Rattle.mintc_timing.specs.Design.{Timing, element_at, no_pair}
use Rattle.mintc_timing.specs.Limits.{IsDesign}
use Rattle.mintc_timing.specs.Links.{links_of, link_at, no_link}
use Rattle.mintc_timing.specs.Order.{IsTiming}
use Rattle.mintc_timing.specs.Paths.{IsPath, greatest_delay, input_of}
use Rattle.mintc_certificate.specs.declared.members.Member.{Member}
use Rattle.mintc_certificate.specs.declared.members.Member.TheVariants as member
use Rattle.mintc_optimise.specs.Making.{Stands, StandInOrder, StandForAll, StandsFor}
use Rattle.mintc_optimise.proofs.SharedStandingLaws.{IsOfKind, delay_of_reach, of_kind, reach_stands}

-- Where each of some numbers has a member that stands for its link, a list of them has members.
pub all_stand : {M : Type 0} {meant few : M → Type 0} {shows : M → Link} (link : ℕ → Link) (P : ℕ → Type 0) → ((e : ℕ) → P e → (m : M) × Stands meant few shows (link e) m) →
    (chain : List ℕ) → All P chain → (members : List M) × StandInOrder meant few shows link chain members
all_stand {M} {meant} {few} {shows} link P each [] h = ([], record { each = All-nil meant; same = refl; counted = All-nil few })
all_stand {M} {meant} {few} {shows} link P each (e ∷ chain) h =
    let here = each e (All-head P e chain h) in
    let rest = all_stand link P each chain (All-tail P e chain h) in (
      here.0 ∷ rest.0,
      record {
        each = All-cons meant here.0 rest.0 here.1.member rest.1.each;
        same = ap (λ (k : Link). k ∷ map shows rest.0) here.1.same ∙ ap (λ (ks : List Link). link e ∷ ks) rest.1.same;
        counted = All-cons few here.0 rest.0 here.1.counted rest.1.counted;
      },
    )

module _ (t : Timing) (limits : IsDesign t.flat) (kept : IsTiming t.flat t.order t.pairs) where
  -- a path of a reach with the greatest delay of its pair
  pub slowest_path : (k : Link) (j l : ℕ) → IsOfKind t k (kind.Reach j l) → (path : List ℕ) × IsPath t.flat.arcs j path (input_of l) × (greatest_delay t.flat.arcs path ≡ k.delay -ℤ (element_at t.flat j).dq_max)
  slowest_path k j l h =
      let greatest = (kept.extremes.each h.0 no_pair h.1).greatest.attained in
      let asked = delay_of_reach t limits k j l h (k.delay -ℤ (element_at t.flat j).dq_max) refl in
      (greatest.0, rw (h.2, h.3) at greatest.1, greatest.2 ∙ sym asked)

  member_by : (k : Link) (which : LinkKind) → IsOfKind t k which → (m : Member) × StandsFor t k m
  member_by k (kind.Start p) h = (member.Start p, h)
  member_by k (kind.Cycle p) h = (member.Cycle p, h)
  member_by k (kind.Order p) h = (member.Order p, h)
  member_by k (kind.Span p) h = (member.Span p, h)
  member_by k (kind.Width p) h = (member.Width p, h)
  member_by k (kind.Apart i j) h = (member.Apart i j, h)
  member_by k (kind.Opening l) h = (member.Opening l, h)
  member_by k (kind.Opened l) h = (member.Opened l, h)
  member_by k (kind.Reach j l) h =
      let path = slowest_path k j l h in
      (member.Reach j l path.0, reach_stands t limits kept k j l path.0 h path.1 (k.delay -ℤ (element_at t.flat j).dq_max) refl path.2)
  member_by k (kind.Setup l) h = (member.Setup l, h)
  member_by k (kind.Bound n) h = (member.Bound n, h)
  member_by k (kind.Other n) h = absurd h

  pub member_of : (k : Link) → Contains (links_of t) k → (m : Member) × StandsFor t k m
  member_of k listed = member_by k k.kind (of_kind t limits k k.kind refl listed)

  pub members_of : (chain : List ℕ) → All (λ e. e < length (links_of t)) chain → (members : List Member) × StandForAll t (links_of t) chain members
  members_of chain exist = all_stand (link_at (links_of t)) (λ e. e < length (links_of t)) (λ e h. member_of (link_at (links_of t) e) (Contains-get_or (links_of t) e no_link h)) chain exist
