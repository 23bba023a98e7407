-- A few systems have a joint optimum.
use Rattle.std.proofs.Common.{◌≡◌, ℕ, zero, suc, ◌+◌, ◌-◌, ◌*◌, ◌<◌, ◌≤◌, ℤ, List, [], ◌∷◌, length, get_or, map, take, arith, refl, subst, ⊎_elim}
use Rattle.std.specs.List.{All, flat_map}
use Rattle.std.proofs.lemmas.Bool.{cases_lt}
use Rattle.std.proofs.lemmas.List.{length-append, length-map}
use Rattle.std.proofs.lemmas.List.Elements.{All-nil, All-cons}
use Rattle.std.proofs.lemmas.List.FromFn.{length-map-range_with_len}
use Rattle.mintc_text.specs.declared.limits.TheConstants.{MOST_ELEMENTS}
use Rattle.mintc_fraction.specs.Ratio.{Ratio}
use Rattle.mintc_timing.specs.declared.link.Link.{Link}
use Rattle.mintc_timing.specs.Design.{Timing, element_count, phase_count}
use Rattle.mintc_timing.specs.Limits.{IsDesign, IsInRange}
use Rattle.mintc_timing.specs.Links.{link_at, no_link}
use Rattle.mintc_timing.specs.Order.{IsTiming}
use Rattle.mintc_constraints.specs.Duality.{departure_of, schedule_of}
use Rattle.mintc_constraints.specs.Ordinary.{Constraints, IsOrdinary, constraints_of}
use Rattle.mintc_constraints.specs.Rooms.{Space}
use Rattle.mintc_ratio.specs.declared.searching.Outcome.{Outcome}
use Rattle.mintc_ratio.specs.declared.searching.Outcome.TheVariants as outcome
use Rattle.mintc_ratio.specs.Searched.{HasSearched, IsCycle}
use Rattle.mintc_ratio_laws.proofs.SharedOutcomeLaws.{searches_end_lem}
use Rattle.mintc_optimise_laws.proofs.SharedMemberLaws.{all_stand, member_of}
use Rattle.mintc_optimise_laws.proofs.SharedSayableLaws.{departures_in, schedule_in}
use Rattle.mintc_corners.specs.declared.certificate.CornerCertificate.{CornerCertificate}
use Rattle.mintc_corners.specs.declared.certificate.CornerCertificate.TheVariants as certificate
use Rattle.mintc_corners.specs.declared.members.CornerMember.{CornerMember}
use Rattle.mintc_corners.specs.CornerOptimum.{AreDeparturesInRange, IsOptimumOf}
use Rattle.mintc_corners.specs.Joined.{AreSayableAfter, AreSayableOfAll, IsPlace, StandForAll, StandsFor, clock_count, corner_number, corner_values, departures_after, departures_of_all, joined_links, no_timing, own_list}
use Rattle.mintc_corners.specs.Joint.{AreCorners, joint_nodes}
use Rattle.mintc_corners.specs.Laws.{AreSystems}
use Rattle.mintc_corners.specs.Lifted.{widest}
use Rattle.mintc_corners.proofs.SharedMadeLaws.{answered}
use Rattle.mintc_corners.proofs.SharedMemberLaws.{listed, standing}
use Rattle.mintc_corners.proofs.SharedPlaceLaws.{by_first, joined_length, joined_ordinary}
use Rattle.mintc_corners.proofs.SharedScheduleLaws.{own_schedule}
use Rattle.mintc_corners_laws.specs.Existence.{JointOptimaExist}

-- ---- where the link of a number stands

-- how many links all lists have
abbrev all_links : List Constraints → List Link
all_links lists = flat_map (λ (l : Constraints). l.links) lists

place_of : (lists : List Constraints) (number : ℕ) → number < length (all_links lists) → (c : ℕ) × (i : ℕ) × IsPlace lists number c i
place_of [] number h = absurd (omega arith)
place_of (l ∷ lists) number h =
    ⊎_elim
    (λ (here : number < length l.links). (0, number, record { corner = omega arith; inside = here; same = omega arith }))
    (λ (past : length l.links ≤ number).
    let rest = place_of lists (number - length l.links) (omega (arith, length-append l.links (all_links lists))) in (
      suc rest.0,
      rest.1,
      record {
        corner = omega (arith, rest.2.corner);
        inside = rest.2.inside;
        same = omega (arith, rest.2.same, length-append l.links (all_links (take rest.0 lists)));
      },
    ))
    (cases_lt number (length l.links))

-- the system of a number, and what it keeps
kept_at : (systems : List Timing) (c : ℕ) (none : Timing) → AreSystems systems → c < length systems → IsDesign (get_or systems c none).flat × IsTiming (get_or systems c none).flat (get_or systems c none).order (get_or systems c none).pairs
kept_at [] c none kept h = absurd (omega arith)
kept_at (t ∷ ts) zero none kept h = (kept.0, kept.1)
kept_at (t ∷ ts) (suc c) none kept h = kept_at ts c none kept.2 (omega arith)

module _ (systems : List Timing) (few : length systems ≤ 4) (are : AreCorners systems) (elements : length (flat_map (λ (t : Timing). t.flat.elements) systems) ≤ MOST_ELEMENTS) (kept : AreSystems systems) where
  abbrev lists : List Constraints
  lists = map own_list systems

  -- the member for a joint link, of its corner
  member_at : (number : ℕ) → number < length (joined_links systems) → (m : CornerMember) × StandsFor systems (link_at (joined_links systems) number) m
  member_at number h =
      let place = place_of lists number (omega (arith, h, joined_length (widest systems) (clock_count systems) 0 systems)) in
      let c = place.0 in
      let inside : c < length systems = omega (arith, place.2.corner, length-map systems own_list) in
      let t = get_or systems c no_timing in
      let own = kept_at systems c no_timing kept inside in
      let list = get_or lists c (constraints_of 0 []) in
      let k = get_or list.links place.1 no_link in
      let found = listed systems lists refl c place.1 number place.2 list (same_list lists c place.2.corner (constraints_of 0 [])) t (same_timing systems c inside) list.links refl no_link in
      let m = member_of t own.0 own.1 k found in (
        record { corner = corner_number c m.0; member = m.0 },
        standing systems lists refl c place.1 number place.2 list (same_list lists c place.2.corner (constraints_of 0 [])) t (same_timing systems c inside) list.links refl no_link few are elements kept m.0 (corner_number c m.0) refl m.1,
      )
    where
      same_list : (ls : List Constraints) (c : ℕ) → c < length ls → (d : Constraints) → get_or ls c d ≡ get_or ls c (get_or ls c d)
      same_list [] c h d = absurd (omega arith)
      same_list (l ∷ ls) zero h d = refl
      same_list (l ∷ ls) (suc c) h d = same_list ls c (omega arith) d

      same_timing : (ts : List Timing) (c : ℕ) → c < length ts → get_or ts c no_timing ≡ get_or ts c (get_or ts c no_timing)
      same_timing [] c h = absurd (omega arith)
      same_timing (u ∷ ts) zero h = refl
      same_timing (u ∷ ts) (suc c) h = same_timing ts c (omega arith)

-- ---- the certificate

members_of : (systems : List Timing) → AreCorners systems → ((number : ℕ) → number < length (joined_links systems) → (m : CornerMember) × StandsFor systems (link_at (joined_links systems) number) m) →
    (chain : List ℕ) → All (λ e. e < length (joined_links systems)) chain → (members : List CornerMember) × StandForAll systems chain members
members_of [] are each chain exist = absurd are
members_of (t ∷ ts) are each chain exist = all_stand (link_at (joined_links (t ∷ ts))) (λ e. e < length (joined_links (t ∷ ts))) each chain exist

module _ (cycle : Ratio) (is : IsCycle cycle) (values : List ℤ) where
  first_in : (systems : List Timing) → AreCorners systems → AreSystems systems → AreSayableOfAll systems values → IsInRange (schedule_of (get_or systems 0 no_timing).flat cycle.num cycle.den values)
  first_in [] are kept said = absurd are
  first_in (t ∷ ts) are kept said =
      let own = schedule_in t.flat kept.0 cycle is (corner_values (2 * phase_count t.flat) 0 (element_count t.flat) values) said.0.sayable in
      subst IsInRange (own_schedule t 0 (element_count t.flat) cycle.num cycle.den values said.0.inside) own

  all_in : (clock before : ℕ) (systems : List Timing) → AreSystems systems → AreSayableAfter clock before systems values → All AreDeparturesInRange (departures_after clock before systems values)
  all_in clock before [] kept said = All-nil AreDeparturesInRange
  all_in clock before (t ∷ ts) kept said =
      let own = corner_values clock before (element_count t.flat) values in
      let count = length-map-range_with_len (departure_of t.flat own) 0 (element_count t.flat) in
      let few = kept.0.elements in
      All-cons AreDeparturesInRange _ _
      (record { count = omega (arith, count, few); each = departures_in t.flat kept.0 cycle is own said.0.sayable })
      (all_in clock (before + element_count t.flat) ts kept.2 said.1)

module _ (systems : List Timing) (few : length systems ≤ 4) (are : AreCorners systems) (elements : length (flat_map (λ (t : Timing). t.flat.elements) systems) ≤ MOST_ELEMENTS) (kept : AreSystems systems) where
  abbrev list : Constraints
  list = constraints_of (joint_nodes systems) (joined_links systems)

  ordinary : IsOrdinary list
  ordinary = by_first (λ ts. IsOrdinary (constraints_of (joint_nodes ts) (joined_links ts))) (λ t ts corners own some low. joined_ordinary t ts corners own some low) systems few are elements kept

  made : (room : Space) (found : Outcome) → HasSearched list room found → (c : CornerCertificate) × IsOptimumOf systems c
  made room (outcome.Least cycle) h =
      let all = answered room systems few are elements kept in
      let members = members_of systems are (member_at systems few are elements kept) room.chain h.chain.exist in
      let said = all.sayable cycle h in
      let s = schedule_of (get_or systems 0 no_timing).flat cycle.num cycle.den room.values in
      let ds = departures_of_all systems room.values in (
        certificate.Least s ds members.0,
        all.least cycle s ds members.0 h refl refl members.1 (first_in cycle h.cycle_is room.values systems are kept said) (all_in cycle h.cycle_is room.values (clock_count systems) 0 systems kept said),
      )
  made room outcome.Never h =
      let all = answered room systems few are elements kept in
      let members = members_of systems are (member_at systems few are elements kept) room.chain h.0.exist in
      (certificate.Never members.0, all.never members.0 h members.1)

pub joint_optima_exist_lem : JointOptimaExist
joint_optima_exist_lem systems few are elements kept =
    let ended = searches_end_lem (joint_nodes systems) (joined_links systems) (ordinary systems few are elements kept) in
    made systems few are elements kept ended.0 ended.1 ended.2
