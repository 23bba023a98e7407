-- What a search leaves, with its chain turned to its beginning, and the members for it.
use Rattle.std.proofs.Common.{◌≡◌, ℕ, List, subst, sym}
use Rattle.mintc_timing.specs.Design.{Timing}
use Rattle.mintc_timing.specs.Links.{link_at, links_of, node_count}
use Rattle.mintc_constraints.specs.Ordinary.{Constraints, constraints_of}
use Rattle.mintc_constraints.specs.Rooms.{Space}
use Rattle.mintc_ratio.specs.declared.searching.Outcome.{Outcome}
use Rattle.mintc_ratio.specs.Chains.{links_at}
use Rattle.mintc_ratio.specs.Searched.{HasSearched}
use Rattle.mintc_certificate.specs.declared.members.Member.{Member}
use Rattle.mintc_certificate.specs.Valid.{link_of, links_of_members}
use Rattle.mintc_optimise.specs.Beginning.{BeginsFirst, IsBeginning, turned}
use Rattle.mintc_optimise.specs.Making.{StandForAll}
use Rattle.mintc_optimise.proofs.SharedTurnLaws.{begins_as, searched-turned, stand-turned, turned_room}

-- The chain, turned, and its members, turned too, are an answer as before, and begin as they should.
pub record AreTurned (t : Timing) (room : Space) (found : Outcome) (n : ℕ) (members : List Member) : Type 0 where
  pub searched : HasSearched (constraints_of (node_count t.flat) (links_of t)) (turned_room n room) found
  pub stand : StandForAll t (links_of t) (turned n room.chain) members
  pub begins : BeginsFirst (links_of t) (links_of_members t.flat members)

pub are_turned : (t : Timing) (list : Constraints) (room : Space) (found : Outcome) (n : ℕ) (numbers : List ℕ) (ring members : List Member) →
    list ≡ constraints_of (node_count t.flat) (links_of t) → numbers ≡ room.chain → HasSearched list room found → IsBeginning list.links (links_at list.links numbers) n →
    StandForAll t list.links numbers ring → members ≡ turned n ring → AreTurned t room found n members
are_turned t list room found n numbers ring members list_is numbers_are searched begins stand members_are =
    let here : HasSearched (constraints_of (node_count t.flat) (links_of t)) room found = rw list_is at searched in
    let first : IsBeginning (links_of t) (links_at (links_of t) room.chain) n = rw (list_is, numbers_are) at begins in
    let each : StandForAll t (links_of t) room.chain ring = rw (list_is, numbers_are) at stand in
    record {
      searched = searched-turned (constraints_of (node_count t.flat) (links_of t)) room found n here;
      stand = subst (StandForAll t (links_of t) (turned n room.chain)) (sym members_are) (stand-turned (link_at (links_of t)) room.chain ring each n);
      begins = subst (λ (ms : List Member). BeginsFirst (links_of t) (links_of_members t.flat ms)) (sym members_are) (begins_as (link_of t.flat) (links_of t) room.chain ring n each.same first);
    }
