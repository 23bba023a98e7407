-- Each system has an optimum.
use Rattle.std.proofs.Common.{refl}
use Rattle.mintc_timing.specs.Design.{Timing}
use Rattle.mintc_timing.specs.Limits.{IsDesign}
use Rattle.mintc_timing.specs.Links.{links_of, node_count}
use Rattle.mintc_timing.specs.Order.{IsTiming}
use Rattle.mintc_constraints.specs.Duality.{departures_of, schedule_of}
use Rattle.mintc_constraints.specs.Ordinary.{constraints_of}
use Rattle.mintc_constraints.specs.Rooms.{Space}
use Rattle.mintc_constraints.proofs.SharedOrdinaryLaws.{ordinary}
use Rattle.mintc_ratio.specs.declared.searching.Outcome.{Outcome}
use Rattle.mintc_ratio.specs.declared.searching.Outcome.TheVariants as outcome
use Rattle.mintc_ratio.specs.Searched.{HasSearched}
use Rattle.mintc_ratio_laws.proofs.SharedOutcomeLaws.{searches_end_lem}
use Rattle.mintc_certificate.specs.declared.certificate.Certificate.{Certificate}
use Rattle.mintc_certificate.specs.declared.certificate.Certificate.TheVariants as certificate
use Rattle.mintc_optimise.proofs.SharedCertificateLaws.{IsAnswer, made_least, made_never, sayable}
use Rattle.mintc_optimise_laws.specs.Existence.{IsBest, OptimaExist}
use Rattle.mintc_optimise_laws.proofs.SharedMemberLaws.{members_of}
use Rattle.mintc_optimise_laws.proofs.SharedSayableLaws.{departures_in, schedule_in}

best_of : (t : Timing) (c : Certificate) → IsAnswer t c → IsBest t c
best_of t c is = record { valid = is.valid; optimal = is.optimal; earliest = is.earliest; simple = is.simple; in_range = is.in_range; short = is.short }

module _ (t : Timing) (limits : IsDesign t.flat) (kept : IsTiming t.flat t.order t.pairs) where
  -- the certificate of what a search leaves
  made : (room : Space) (found : Outcome) → HasSearched (constraints_of (node_count t.flat) (links_of t)) room found → (c : Certificate) × IsAnswer t c
  made room (outcome.Least cycle) h =
      let members = members_of t limits kept room.chain h.chain.exist in
      let said = sayable t limits kept room cycle h in (
        certificate.Least (schedule_of t.flat cycle.num cycle.den room.values) (departures_of t.flat room.values) members.0,
        made_least t limits kept room cycle h members.0 (schedule_of t.flat cycle.num cycle.den room.values) (departures_of t.flat room.values) members.1 refl refl
            (schedule_in t.flat limits cycle h.cycle_is room.values said) (departures_in t.flat limits cycle h.cycle_is room.values said),
      )
  made room outcome.Never h =
      let members = members_of t limits kept room.chain h.0.exist in
      (certificate.Never members.0, made_never t limits kept room members.0 h members.1)

pub optima_exist_lem : OptimaExist
optima_exist_lem t limits kept =
    let ended = searches_end_lem (node_count t.flat) (links_of t) (ordinary t limits kept) in
    let c = made t limits kept ended.0 ended.1 ended.2 in
    (c.0, best_of t c.0 c.1)
