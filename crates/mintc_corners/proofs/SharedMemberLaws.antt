-- The member that is made for a joint link by its number.
use Rattle.std.proofs.Common.{◌≡◌, ℕ, ◌<◌, ◌≤◌, ◌+◌, List, [], ◌∷◌, ◌++◌, length, get_or, map, take, arith, ap, ◌∙◌, sym, subst, zero-add}
use Rattle.std.specs.List.{Contains, flat_map}
use Rattle.std.proofs.lemmas.List.{get_or_default, length-map}
use Rattle.mintc_text.specs.declared.limits.TheConstants.{MOST_ELEMENTS}
use Rattle.mintc_timing.specs.declared.link.Link.{Link}
use Rattle.mintc_timing.specs.Design.{Timing}
use Rattle.mintc_timing.specs.Links.{links_of, no_link, link_at}
use Rattle.mintc_constraints.specs.Ordinary.{Constraints, constraints_of}
use Rattle.mintc_certificate.specs.declared.members.Member.{Member}
use Rattle.mintc_optimise.specs.Making.{StandsFor as StandsForOwn}
use Rattle.mintc_optimise.proofs.SharedStandingLaws.{stand_more}
use Rattle.mintc_corners.specs.Lifted.{lifted_link, widest}
use Rattle.mintc_corners.specs.declared.members.CornerMember.{CornerMember}
use Rattle.mintc_corners.specs.CornerOptimum.{corner_of}
use Rattle.mintc_corners.specs.Joined.{IsPlace, clock_count, joined_links, own_list, StandForAll, StandsFor, corner_number}
use Rattle.mintc_corners.specs.Joint.{AreCorners}
use Rattle.mintc_corners.specs.Laws.{AreSystems}
use Rattle.mintc_corners.proofs.LiftLaws.{elements_before}
use Rattle.mintc_corners.proofs.LoopLaws.{list_at}
use Rattle.mintc_corners.proofs.SharedPlaceLaws.{besides, by_first, joined_at}
use Rattle.mintc_corners.proofs.StandingLaws.{standing_for}

-- one more member, of any corners
pub stand_read : (systems : List Timing) (chain : List ℕ) (i : ℕ) (members : List CornerMember) (m : CornerMember) → i < length chain → StandForAll systems (take i chain) members →
    StandsFor systems (link_at (joined_links systems) (get_or chain i 0)) m → StandForAll systems (take (i + 1) chain) (members ++ m ∷ [])
stand_read [] chain i members m h before here = before
stand_read (t ∷ ts) chain i members m h before here = stand_more (link_at (joined_links (t ∷ ts))) chain i members m h before here

module _ (systems : List Timing) (lists : List Constraints) (are : lists ≡ map own_list systems) (c i number : ℕ) (place : IsPlace lists number c i) (list : Constraints) (list_is : list ≡ get_or lists c list)
    (t : Timing) (t_is : t ≡ get_or systems c t) (items : List Link) (items_are : items ≡ list.links) (d : Link) where
  below : c < length systems
  below =
      let same = ap (λ (xs : List Constraints). length xs) are ∙ length-map systems own_list in
      omega arith

  list_own : list ≡ own_list t
  list_own = list_at systems lists are c list below list_is t ∙ ap own_list (sym t_is)

  items_own : items ≡ links_of t
  items_own = items_are ∙ ap (λ (x : Constraints). x.links) list_own

  inside : i < length items
  inside = rw (items_are, list_is, get_or_default lists c list (constraints_of 0 []) place.corner) place.inside

  pub listed : Contains (links_of t) (get_or items i d)
  listed = subst (λ (ks : List Link). Contains ks (get_or items i d)) items_own (i, inside, get_or_default items i (get_or items i d) d inside)

  -- the joint link of the number is the corner's link, numbered among all
  link_is : link_at (joined_links systems) number ≡ lifted_link (widest systems) (clock_count systems) (elements_before systems c) (get_or items i d)
  link_is =
      let few : i < length (links_of (get_or systems c t)) = rw (sym t_is, sym items_own) inside in
      let found = joined_at (widest systems) (clock_count systems) 0 systems c i t no_link below few in
      rw (← place.same, are) (rw (zero-add (elements_before systems c), ← t_is, ← items_own, get_or_default items i no_link d inside) at found)

  -- so the member that stands for that one stands for it
  pub standing : length systems ≤ 4 → AreCorners systems → length (flat_map (λ (u : Timing). u.flat.elements) systems) ≤ MOST_ELEMENTS → AreSystems systems → (m : Member) (n : ℕ) → n ≡ corner_number c m →
      StandsForOwn t (get_or items i d) m → StandsFor systems (link_at (joined_links systems) number) (record { corner = n; member = m })
  standing few corners elements kept m n n_is h =
      rw (link_is, n_is)
      (by_first (λ ts. c < length ts → t ≡ get_or ts c t → StandsFor ts (lifted_link (widest ts) (clock_count ts) (elements_before ts c) (get_or items i d)) (record { corner = corner_number c m; member = m }))
      (λ first rest are own few elements below is.
      let same : t ≡ corner_of first rest c = is ∙ get_or_default (first ∷ rest) c t first below in
      standing_for first rest are own (besides first rest are own few elements) few c below (get_or items i d) m
      (subst (λ (u : Timing). Contains (links_of u) (get_or items i d)) same listed) (subst (λ (u : Timing). StandsForOwn u (get_or items i d) m) same h))
      systems few corners elements kept below t_is)
