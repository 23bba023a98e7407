-- What a search over the safe links leaves, with its chain turned to its beginning, and the members for it.
use Rattle.std.proofs.Common.{◌≡◌, ℕ, List, map, subst, sym, ◌∙◌}
use Rattle.std.proofs.lemmas.Simd.{map-map}
use Rattle.mintc_timing.specs.declared.link.Link.{Link}
use Rattle.mintc_timing.specs.Design.{Timing}
use Rattle.mintc_timing.specs.Links.{link_at, node_count}
use Rattle.mintc_constraints.specs.Ordinary.{Constraints, constraints_of}
use Rattle.mintc_constraints.specs.Rooms.{Space}
use Rattle.mintc_ratio.specs.declared.searching.Outcome.{Outcome}
use Rattle.mintc_ratio.specs.Chains.{links_at}
use Rattle.mintc_ratio.specs.Searched.{HasSearched}
use Rattle.mintc_optimise.specs.Beginning.{BeginsFirst, IsBeginning, turned}
use Rattle.mintc_optimise.proofs.SharedTurnLaws.{begins-turned, map-turned, searched-turned, stand-turned, turned_room}
use Rattle.mintc_safe.specs.declared.members.SafeMember.{SafeMember}
use Rattle.mintc_safe.specs.Hold.{safe_links_of}
use Rattle.mintc_safe.specs.SafeOptimum.{bare, link_of_safe, links_of_safe, StandForAll}
use Rattle.mintc_safe.proofs.BareLaws.{same_beginning}

-- Members begin as the links do that they stand for, their kinds aside.
begins_bare : (t : Timing) (links : List Link) (n : ℕ) (chain : List ℕ) (members : List SafeMember) → IsBeginning links (links_at links chain) n → StandForAll t links (turned n chain) members → BeginsFirst links (links_of_safe t.flat members)
begins_bare t links n chain members first stand =
    let same : map bare (links_of_safe t.flat members) ≡ map bare (links_at links (turned n chain)) =
    map-map bare (link_of_safe t.flat) members ∙ stand.same ∙ sym (map-map bare (link_at links) (turned n chain)) in
    same_beginning (links_of_safe t.flat members) (links_at links (turned n chain)) same links
    (subst (BeginsFirst links) (sym (map-turned (link_at links) n chain)) (begins-turned links n (links_at links chain) first))

-- The chain, turned, and its members, turned too, are an answer as before, and begin as they should.
pub record AreTurned (t : Timing) (room : Space) (found : Outcome) (n : ℕ) (members : List SafeMember) : Type 0 where
  pub searched : HasSearched (constraints_of (node_count t.flat) (safe_links_of t)) (turned_room n room) found
  pub stand : StandForAll t (safe_links_of t) (turned n room.chain) members
  pub begins : BeginsFirst (safe_links_of t) (links_of_safe t.flat members)

pub are_turned : (t : Timing) (list : Constraints) (room : Space) (found : Outcome) (n : ℕ) (numbers : List ℕ) (ring members : List SafeMember) →
    list ≡ constraints_of (node_count t.flat) (safe_links_of t) → numbers ≡ room.chain → HasSearched list room found → IsBeginning list.links (links_at list.links numbers) n →
    StandForAll t list.links numbers ring → members ≡ turned n ring → AreTurned t room found n members
are_turned t list room found n numbers ring members list_is numbers_are searched begins stand members_are =
    let here : HasSearched (constraints_of (node_count t.flat) (safe_links_of t)) room found = rw list_is at searched in
    let first : IsBeginning (safe_links_of t) (links_at (safe_links_of t) room.chain) n = rw (list_is, numbers_are) at begins in
    let each : StandForAll t (safe_links_of t) room.chain ring = rw (list_is, numbers_are) at stand in
    let later : StandForAll t (safe_links_of t) (turned n room.chain) members =
    subst (StandForAll t (safe_links_of t) (turned n room.chain)) (sym members_are) (stand-turned (λ e. bare (link_at (safe_links_of t) e)) room.chain ring each n) in
    record {
      searched = searched-turned (constraints_of (node_count t.flat) (safe_links_of t)) room found n here;
      stand = later;
      begins = begins_bare t (safe_links_of t) n room.chain members first later;
    }
