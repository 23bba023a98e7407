-- What is made of the answer of a search over the joint links is a corner certificate.
use Rattle.std.proofs.Common.{◌≡◌, ℕ, ◌≤◌, ◌+◌, ◌*◌, ℤ, List, [], ◌∷◌, length, get_or, arith, refl, sym, ◌∙◌, subst}
use Rattle.std.specs.List.{All, Contains, flat_map}
use Rattle.std.proofs.lemmas.List.{append-nil, length-map}
use Rattle.mintc_text.specs.declared.limits.TheConstants.{MOST_ELEMENTS}
use Rattle.mintc_fraction.specs.Ratio.{Ratio}
use Rattle.mintc_timing.specs.declared.link.Link.{Link}
use Rattle.mintc_timing.specs.declared.clocking.Schedule.{Schedule}
use Rattle.mintc_timing.specs.Design.{Timing, element_count, phase_count}
use Rattle.mintc_timing.specs.Limits.{IsDesign, IsInRange}
use Rattle.mintc_timing.specs.Links.{IsChain, links_of, IsStuck, node_count}
use Rattle.mintc_timing.specs.Right.{IsRight}
use Rattle.mintc_constraints.specs.Duality.{departures_of, schedule_of}
use Rattle.mintc_timing.specs.Paths.{HasEnds}
use Rattle.mintc_constraints.specs.Ordinary.{Constraints, constraints_of}
use Rattle.mintc_constraints.specs.Rooms.{Space}
use Rattle.mintc_constraints.proofs.SharedChainLaws.{stuck_is_hopeless_lem}
use Rattle.mintc_ratio.specs.declared.searching.Outcome.TheVariants as outcome
use Rattle.mintc_ratio.specs.Chains.{NamesChain, links_at}
use Rattle.mintc_ratio.specs.Greatest.{AreGreatest}
use Rattle.mintc_ratio.specs.Searched.{HasSearched, IsLeast}
use Rattle.mintc_optimise.specs.Optimum.{IsEarliest}
use Rattle.mintc_optimise.proofs.SharedCertificateLaws.{IsRound, round}
use Rattle.mintc_optimise.proofs.SharedWalkedLaws.{AreLeast, are_least}
use Rattle.mintc_corners.specs.declared.members.CornerMember.{CornerMember}
use Rattle.mintc_corners.specs.declared.certificate.CornerCertificate.TheVariants.{Least, Never}
use Rattle.mintc_corners.specs.CornerOptimum.{AreDeparturesInRange, IsCornerChainInRange, IsCornerOptimum, IsCornerRing, IsOptimumOf, link_of_corner, links_of_corners}
use Rattle.mintc_corners.specs.Joined.{departures_after, departures_of_all, joined_links, no_timing, corner_values, AreSayableOfAll, StandForAll}
use Rattle.mintc_corners.specs.Joint.{AreCorners, AreJointlyRight, joint_links_of, joint_nodes, side_by_side}
use Rattle.mintc_corners.specs.Laws.{AreBeside, AreSystems}
use Rattle.mintc_corners.proofs.BesideLaws.{beside_in_parts}
use Rattle.mintc_corners.proofs.GreatestLaws.{carried_greatest}
use Rattle.mintc_corners.proofs.JoinedLaws.{joined_listed, links_joined}
use Rattle.mintc_corners.proofs.JointLaws.{corners_are_modest_lem, joint_cycle_is_least_lem, jointly_hopeless_is_hopeless_lem, phases_are}
use Rattle.mintc_corners.proofs.SharedPlaceLaws.{by_first, joined_ordinary, nodes_are}
use Rattle.mintc_corners.proofs.SharedScheduleLaws.{sayable_of_all, schedule_same}
use Rattle.mintc_corners.proofs.TransferLaws.{carried_chain}
use Rattle.mintc_corners.proofs.ValuesLaws.{counts_are, departures_are}

lists_count : (ts : List Timing) (clock before : ℕ) (values : List ℤ) → length (departures_after clock before ts values) ≡ length ts
lists_count [] clock before values = refl
lists_count (t ∷ ts) clock before values = let rest = lists_count ts clock (before + element_count t.flat) values in omega arith

-- the departures of all corners, one after the other
abbrev all_departures : List (List ℤ) → List ℤ
all_departures ds = flat_map (λ (d : List ℤ). d) ds

-- A schedule that is right side by side, is right in each corner with its part of the departures.
split_as : (t : Timing) (ts : List Timing) (s : Schedule) (clock before : ℕ) (values : List ℤ) → AreBeside t ts → IsRight (side_by_side t ts) s (all_departures (departures_after clock before (t ∷ ts) values)) →
    AreJointlyRight (t ∷ ts) s (departures_after clock before (t ∷ ts) values)
split_as t [] s clock before values are right = (subst (IsRight t s) (append-nil (departures_of t.flat (corner_values clock before (element_count t.flat) values))) right, tt)
split_as t (u ∷ ts) s clock before values are right =
    let d = departures_of t.flat (corner_values clock before (element_count t.flat) values) in
    let rest = all_departures (departures_after clock (before + element_count t.flat) (u ∷ ts) values) in
    let both = (beside_in_parts t (side_by_side u ts) s d rest are.1 are.0 (counts_are t (corner_values clock before (element_count t.flat) values))).0 right in
    (both.0, split_as u ts s clock (before + element_count t.flat) values are.2 both.1)

module _ (t : Timing) (ts : List Timing) (are : AreCorners (t ∷ ts)) (systems : AreSystems (t ∷ ts)) (some : length ts ≤ 3) (few : element_count (side_by_side t ts).flat ≤ MOST_ELEMENTS) where
  abbrev big : Timing
  big = side_by_side t ts

  abbrev own_links : List Link
  own_links = joined_links (t ∷ ts)

  abbrev list : Constraints
  list = constraints_of (joint_nodes (t ∷ ts)) own_links

  besides : AreBeside t ts
  besides = (corners_are_modest_lem t ts are systems some few).0

  limits : IsDesign big.flat
  limits = (corners_are_modest_lem t ts are systems some few).1

  ends : HasEnds big
  ends = (corners_are_modest_lem t ts are systems some few).2.ends

  listed : All (Contains (joint_links_of t ts)) own_links
  listed = joined_listed t ts are systems besides

  module _ (chain : List ℕ) (named : NamesChain own_links chain) (members : List CornerMember) (stand : StandForAll (t ∷ ts) chain members) where
    is_round : IsRound (links_of_corners t ts members)
    is_round = rw stand.same (round (joint_nodes (t ∷ ts)) own_links chain (joined_ordinary t ts are systems some few) named)

    ring : IsCornerRing t ts members
    ring = record { each = stand.each; closed = is_round.closed }

    of_all : IsChain (links_of big) (links_at own_links chain)
    of_all = carried_chain own_links (links_of big) listed (links_at own_links chain) named.chain

    chain_in : IsCornerChainInRange members
    chain_in =
        let round = is_round in
        let count = length-map members (λ (m : CornerMember). link_of_corner t ts m.corner m.member) in
        record { some = omega arith; most = omega arith; each = stand.counted }

  module _ (room : Space) (cycle : Ratio) (found : IsLeast list cycle room) where
    abbrev values : List ℤ
    values = room.values

    greatest : AreGreatest (constraints_of (node_count big.flat) (links_of big)) cycle values
    greatest = carried_greatest (node_count big.flat) own_links (links_of big) listed (links_joined t ts are systems besides) cycle values (rw (nodes_are t ts) at found.values)

    here : AreLeast big cycle values
    here = are_least big limits ends cycle values greatest found.cycle_is (links_at own_links room.chain)
        (carried_chain own_links (links_of big) listed (links_at own_links room.chain) found.chain.chain) found.tight

    sayable : AreSayableOfAll (t ∷ ts) values
    sayable = sayable_of_all t ts values besides systems few here.sayable

    abbrev s : Schedule
    s = schedule_of big.flat cycle.num cycle.den values

    abbrev ds : List (List ℤ)
    ds = departures_of_all (t ∷ ts) values

    departs : all_departures ds ≡ departures_of big.flat values
    departs = departures_are t ts values besides systems (greatest.count ∙ node_sum)
      where
        node_sum : node_count big.flat ≡ 1 + 2 * phase_count t.flat + element_count big.flat
        node_sum = let phases = phases_are t ts in omega arith

    jointly : AreJointlyRight (t ∷ ts) s ds
    jointly = split_as t ts s (2 * phase_count t.flat) 0 values besides (subst (IsRight big s) (sym departs) here.right)

    made_least : (s' : Schedule) (ds' : List (List ℤ)) (members : List CornerMember) → s' ≡ schedule_of t.flat cycle.num cycle.den values → ds' ≡ ds → StandForAll (t ∷ ts) room.chain members → IsInRange s' →
        All AreDeparturesInRange ds' → IsCornerOptimum t ts (Least s' ds' members)
    made_least s' ds' members s_is ds_are stand schedule_in departures_in =
        let same = s_is ∙ sym (schedule_same t ts cycle.num cycle.den values) in
        let count = lists_count (t ∷ ts) (2 * phase_count t.flat) 0 values in
        rw (same, ds_are) (record {
          valid = (jointly, ring room.chain found.chain members stand, rw stand.same found.tight);
          optimal = (jointly, (joint_cycle_is_least_lem t ts cycle.num cycle.den besides).0 here.least);
          earliest = subst (IsEarliest big.flat (links_of big) s) (sym departs) here.earliest;
          simple = (is_round room.chain found.chain members stand).once;
          in_range = record { schedule_in = rw same at schedule_in; count = omega arith; each = rw ds_are at departures_in; chain_in = chain_in room.chain found.chain members stand };
        })

  made_never : (chain : List ℕ) (members : List CornerMember) → NamesChain own_links chain → IsStuck (links_at own_links chain) → StandForAll (t ∷ ts) chain members → IsCornerOptimum t ts (Never members)
  made_never chain members named stuck stand = record {
    valid = (ring chain named members stand, rw stand.same stuck);
    optimal = (jointly_hopeless_is_hopeless_lem t ts besides).0 (stuck_is_hopeless_lem big (links_at own_links chain) limits ends (of_all chain named members stand) stuck);
    earliest = tt;
    simple = (is_round chain named members stand).once;
    in_range = chain_in chain named members stand;
  }

abbrev list_of : List Timing → Constraints
list_of systems = constraints_of (joint_nodes systems) (joined_links systems)

-- what the code makes of the answer, of any corners
pub record IsAnswered (room : Space) (systems : List Timing) : Type 0 where
  pub sayable : (cycle : Ratio) → IsLeast (list_of systems) cycle room → AreSayableOfAll systems room.values
  pub least : (cycle : Ratio) (s : Schedule) (ds : List (List ℤ)) (members : List CornerMember) → IsLeast (list_of systems) cycle room → s ≡ schedule_of (get_or systems 0 no_timing).flat cycle.num cycle.den room.values →
      ds ≡ departures_of_all systems room.values → StandForAll systems room.chain members → IsInRange s → All AreDeparturesInRange ds → IsOptimumOf systems (Least s ds members)
  pub never : (members : List CornerMember) → HasSearched (list_of systems) room outcome.Never → StandForAll systems room.chain members → IsOptimumOf systems (Never members)

pub answered : (room : Space) (systems : List Timing) → length systems ≤ 4 → AreCorners systems → length (flat_map (λ (u : Timing). u.flat.elements) systems) ≤ MOST_ELEMENTS → AreSystems systems → IsAnswered room systems
answered room = by_first (IsAnswered room)
    (λ t ts are kept some few. record {
      sayable = sayable t ts are kept some few room;
      least = λ cycle s ds members found. made_least t ts are kept some few room cycle found s ds members;
      never = λ members found. made_never t ts are kept some few room.chain members found.0 found.1;
    })
