-- What a search over the joint links leaves, with its chain turned to its beginning, and the members for it.
use Rattle.std.proofs.Common.{◌≡◌, ℕ, List, [], ◌∷◌, length, subst, sym}
use Rattle.mintc_timing.specs.Design.{Timing}
use Rattle.mintc_timing.specs.Links.{link_at}
use Rattle.mintc_constraints.specs.Ordinary.{Constraints, constraints_of}
use Rattle.mintc_constraints.specs.Rooms.{Space}
use Rattle.mintc_ratio.specs.declared.searching.Outcome.{Outcome}
use Rattle.mintc_ratio.specs.Chains.{links_at}
use Rattle.mintc_ratio.specs.Searched.{HasSearched}
use Rattle.mintc_optimise.specs.Beginning.{IsBeginning, turned}
use Rattle.mintc_optimise.proofs.SharedTurnLaws.{begins_as, searched-turned, stand-turned, stand_many, turned_room}
use Rattle.mintc_corners.specs.declared.members.CornerMember.{CornerMember}
use Rattle.mintc_corners.specs.Beginning.{BeginsJointly}
use Rattle.mintc_corners.specs.CornerOptimum.{link_of_corner}
use Rattle.mintc_corners.specs.Joined.{joined_links, StandForAll}
use Rattle.mintc_corners.specs.Joint.{joint_nodes}

-- The members that stand for the links of a chain are as many, stand for those of the turned chain once they are turned
-- too, and begin as it does.
joint-turned : (systems : List Timing) (chain : List ℕ) (members : List CornerMember) (n : ℕ) → StandForAll systems chain members → StandForAll systems (turned n chain) (turned n members)
joint-turned [] chain members n stand = absurd stand
joint-turned (t ∷ ts) chain members n stand = stand-turned (link_at (joined_links (t ∷ ts))) chain members stand n

pub joint_many : (systems : List Timing) (chain : List ℕ) (members : List CornerMember) → StandForAll systems chain members → length members ≡ length chain
joint_many [] chain members stand = absurd stand
joint_many (t ∷ ts) chain members stand = stand_many (link_at (joined_links (t ∷ ts))) chain members stand

begins_jointly : (systems : List Timing) (chain : List ℕ) (members : List CornerMember) (place : ℕ) → StandForAll systems chain members →
    IsBeginning (joined_links systems) (links_at (joined_links systems) chain) place → BeginsJointly systems (turned place members)
begins_jointly [] chain members place stand h = absurd stand
begins_jointly (t ∷ ts) chain members place stand h =
    begins_as (λ (m : CornerMember). link_of_corner t ts m.corner m.member) (joined_links (t ∷ ts)) chain members place stand.same h

abbrev list_of : List Timing → Constraints
list_of systems = constraints_of (joint_nodes systems) (joined_links systems)

-- The chain, turned, and its members, turned too, are an answer as before, and begin as they should.
pub record AreTurned (systems : List Timing) (room : Space) (found : Outcome) (n : ℕ) (members : List CornerMember) : Type 0 where
  pub searched : HasSearched (list_of systems) (turned_room n room) found
  pub stand : StandForAll systems (turned n room.chain) members
  pub begins : BeginsJointly systems members

pub are_turned : (systems : List Timing) (list : Constraints) (room : Space) (found : Outcome) (n : ℕ) (numbers : List ℕ) (ring members : List CornerMember) →
    list ≡ list_of systems → numbers ≡ room.chain → HasSearched list room found → IsBeginning list.links (links_at list.links numbers) n →
    StandForAll systems numbers ring → members ≡ turned n ring → AreTurned systems room found n members
are_turned systems list room found n numbers ring members list_is numbers_are searched begins stand members_are =
    let here : HasSearched (list_of systems) room found = rw list_is at searched in
    let first : IsBeginning (joined_links systems) (links_at (joined_links systems) room.chain) n = rw (list_is, numbers_are) at begins in
    let each : StandForAll systems room.chain ring = rw numbers_are at stand in
    record {
      searched = searched-turned (list_of systems) room found n here;
      stand = subst (StandForAll systems (turned n room.chain)) (sym members_are) (joint-turned systems room.chain ring n each);
      begins = subst (BeginsJointly systems) (sym members_are) (begins_jointly systems room.chain ring n each first);
    }
