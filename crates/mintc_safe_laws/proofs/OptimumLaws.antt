-- Each system has an optimum that keeps each hold.
use Rattle.std.proofs.Common.{◌≡◌, ◌<◌, ℕ, List, length, refl, sym, subst}
use Rattle.std.specs.List.{All, Contains}
use Rattle.std.proofs.lemmas.List.Elements.{Contains-get_or}
use Rattle.mintc_timing.specs.declared.link.Link.{Link}
use Rattle.mintc_timing.specs.declared.link.LinkKind.{LinkKind}
use Rattle.mintc_timing.specs.declared.link.LinkKind.TheVariants as kind
use Rattle.mintc_timing.specs.Design.{Timing, no_pair, pair_at}
use Rattle.mintc_timing.specs.Limits.{IsDesign}
use Rattle.mintc_timing.specs.Links.{link_at, no_link, node_count}
use Rattle.mintc_timing.specs.Order.{IsTiming}
use Rattle.mintc_constraints.specs.Duality.{departures_of, schedule_of}
use Rattle.mintc_constraints.specs.Ordinary.{constraints_of}
use Rattle.mintc_constraints.specs.Rooms.{Space}
use Rattle.mintc_ratio.specs.declared.searching.Outcome.{Outcome}
use Rattle.mintc_ratio.specs.declared.searching.Outcome.TheVariants as outcome
use Rattle.mintc_ratio.specs.Searched.{HasSearched}
use Rattle.mintc_ratio_laws.proofs.SharedOutcomeLaws.{searches_end_lem}
use Rattle.mintc_optimise_laws.proofs.SharedMemberLaws.{all_stand, member_of}
use Rattle.mintc_optimise_laws.proofs.SharedSayableLaws.{departures_in, schedule_in}
use Rattle.mintc_safe.specs.declared.certificate.SafeCertificate.{SafeCertificate}
use Rattle.mintc_safe.specs.declared.certificate.SafeCertificate.TheVariants as certificate
use Rattle.mintc_safe.specs.declared.members.SafeMember.{SafeMember}
use Rattle.mintc_safe.specs.declared.members.SafeMember.TheVariants as member
use Rattle.mintc_safe.specs.Hold.{safe_links_of}
use Rattle.mintc_safe.specs.Laws.{SafeLinksAreOrdinary}
use Rattle.mintc_safe.specs.SafeOptimum.{IsSafeOptimum, StandForAll, StandsFor, bare}
use Rattle.mintc_safe.proofs.SharedCertificateLaws.{made_least, made_never, sayable}
use Rattle.mintc_safe.proofs.SharedStandingLaws.{IsOfSafeKind, hold_stands, of_safe_kind, plain_stands}
use Rattle.mintc_safe_laws.specs.Existence.{SafeOptimaExist}

module _ (t : Timing) (limits : IsDesign t.flat) (kept : IsTiming t.flat t.order t.pairs) where
  -- the member for a hold, with a path that has the least delay of its pair
  hold_member : (k : Link) (n : ℕ) → IsOfSafeKind t k (kind.Other n) → (m : SafeMember) × StandsFor t k m
  hold_member k n h =
      let least = (kept.extremes.each n no_pair h.0).least.attained in
      let p = pair_at t n in
      (member.Hold p.from p.to least.0, subst (λ (x : Link). StandsFor t x (member.Hold p.from p.to least.0)) (sym h.2) (hold_stands t limits kept n least.0 h.0 h.1 least.1 least.2))

  safe_member : (k : Link) (which : LinkKind) → k.kind ≡ which → Contains (safe_links_of t) k → IsOfSafeKind t k which → (m : SafeMember) × StandsFor t k m
  safe_member k (kind.Other n) is listed h = hold_member k n h
  safe_member k which is listed h =
      let plain = member_of t limits kept k h in
      (member.Plain plain.0, plain_stands t limits kept k plain.0 h plain.1)

  members_of : (chain : List ℕ) → All (λ e. e < length (safe_links_of t)) chain → (members : List SafeMember) × StandForAll t (safe_links_of t) chain members
  members_of chain exist =
      all_stand (λ e. bare (link_at (safe_links_of t) e)) (λ e. e < length (safe_links_of t))
      (λ e h.
      let k = link_at (safe_links_of t) e in
      let listed = Contains-get_or (safe_links_of t) e no_link h in
      safe_member k k.kind refl listed (of_safe_kind t limits k k.kind refl listed))
      chain exist

  -- the certificate of what a search leaves
  made : (room : Space) (found : Outcome) → HasSearched (constraints_of (node_count t.flat) (safe_links_of t)) room found → (c : SafeCertificate) × IsSafeOptimum t c
  made room (outcome.Least cycle) h =
      let members = members_of room.chain h.chain.exist in
      let said = sayable t limits kept room cycle h in (
        certificate.Least (schedule_of t.flat cycle.num cycle.den room.values) (departures_of t.flat room.values) members.0,
        made_least t limits kept room cycle h members.0 (schedule_of t.flat cycle.num cycle.den room.values) (departures_of t.flat room.values) members.1 refl refl
            (schedule_in t.flat limits cycle h.cycle_is room.values said) (departures_in t.flat limits cycle h.cycle_is room.values said),
      )
  made room outcome.Never h =
      let members = members_of room.chain h.0.exist in
      (certificate.Never members.0, made_never t limits kept room members.0 h members.1)

pub safe_optima_exist_lem : SafeLinksAreOrdinary → SafeOptimaExist
safe_optima_exist_lem ordinary t limits kept =
    let ended = searches_end_lem (node_count t.flat) (safe_links_of t) (ordinary t limits kept) in
    made t limits kept ended.0 ended.1 ended.2
