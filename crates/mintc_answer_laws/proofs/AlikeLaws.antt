-- Corners that are alike, whatever the orders of their arcs, have the same optima.
use Rattle.std.proofs.Common.{◌≡◌, ◌<◌, ℕ, zero, suc, ℤ, List, [], ◌∷◌, ◌++◌, length, get_or, map, refl, sym, ap, ◌∙◌, subst, arith}
use Rattle.std.specs.List.{AllPairs, AllZip}
use Rattle.std.specs.Prelude.{flat_map, ◌≢◌}
use Rattle.mintc_graph.specs.Rings.{IsClosed}
use Rattle.mintc_timing.specs.declared.clocking.Schedule.{Schedule}
use Rattle.mintc_timing.specs.declared.link.Link.{Link}
use Rattle.mintc_timing.specs.declared.parts.Pair.{Pair}
use Rattle.mintc_timing.specs.Design.{Design, Timing, element_count}
use Rattle.mintc_timing.specs.Links.{IsStuck, IsTight, links_of, opening_link, opened_link, reach_link, setup_link}
use Rattle.mintc_timing.specs.Paths.{greatest_delay}
use Rattle.mintc_timing.specs.Right.{IsRight}
use Rattle.mintc_certificate.specs.declared.members.Member.{Member}
use Rattle.mintc_certificate.specs.declared.members.Member.TheVariants as member
use Rattle.mintc_certificate.specs.Valid.{IsMember, link_of}
use Rattle.mintc_optimise.specs.Optimum.{IsEarliest}
use Rattle.mintc_corners.specs.declared.certificate.CornerCertificate.{CornerCertificate}
use Rattle.mintc_corners.specs.declared.certificate.CornerCertificate.TheVariants as joint
use Rattle.mintc_corners.specs.declared.members.CornerMember.{CornerMember}
use Rattle.mintc_corners.specs.CornerOptimum.{IsCornerOptimal, IsCornerOptimum, IsCornerRing, IsCornerValid, IsOfCorner, IsOfElements, IsOptimumOf, HasJointEarliest, HasJointSimple, among, corner_of, link_in, link_of_corner, links_of_corners}
use Rattle.mintc_corners.specs.Joint.{AreJointlyRight, IsJointCycle, shifted_pair, side_by_side}
use Rattle.mintc_answer_laws.proofs.GivenLaws.{AreAlike, alike_back}
use Rattle.mintc_answer_laws.proofs.OrderLaws.{timing_of, in_each_order, member_turned, right_turned}

-- The timings are alike, one by one.
abbrev pub AllAlike : List Timing → List Timing → Type 0
AllAlike ts us = AllZip AreAlike ts us

all_back : (ts us : List Timing) → AllAlike ts us → AllAlike us ts
all_back [] [] all = tt
all_back [] (u ∷ us) all = absurd all
all_back (t ∷ ts) [] all = absurd all
all_back (t ∷ ts) (u ∷ us) all = (alike_back t u all.0, all_back ts us all.1)

pub alike_long : (ts us : List Timing) → AllAlike ts us → length ts ≡ length us
alike_long [] [] all = refl
alike_long [] (u ∷ us) all = absurd all
alike_long (t ∷ ts) [] all = absurd all
alike_long (t ∷ ts) (u ∷ us) all = ap suc (alike_long ts us all.1)

-- ---- right schedules

jointly : (ts us : List Timing) → AllAlike ts us → (s : Schedule) (ds : List (List ℤ)) → AreJointlyRight ts s ds → AreJointlyRight us s ds
jointly [] [] all s ds h = h
jointly [] (u ∷ us) all s ds h = absurd all
jointly (t ∷ ts) [] all s ds h = absurd all
jointly (t ∷ ts) (u ∷ us) all s [] h = absurd h
jointly (t ∷ ts) (u ∷ us) all s (d ∷ ds) h =
    (in_each_order (λ (x : Timing). IsRight x s d) (λ design pairs a b. right_turned s design pairs a b d) t u all.0.flat all.0.pairs h.0, jointly ts us all.1 s ds h.1)

joint_cycle : (ts us : List Timing) → AllAlike ts us → (num den : ℤ) → IsJointCycle ts num den → IsJointCycle us num den
joint_cycle ts us all num den h = record {
  positive = h.positive;
  attained = (h.attained.0, h.attained.1, jointly ts us all h.attained.0 h.attained.1 h.attained.2, h.attained.3);
  least = λ s ds right. h.least s ds (jointly us ts (all_back ts us all) s ds right);
}

-- ---- side by side

abbrev beside_flat : Design → Design → Design
beside_flat d e = record { phases = d.phases; elements = d.elements ++ e.elements; inner = []; arcs = []; bounds = d.bounds }

abbrev beside_pairs : Design → List Pair → List Pair → List Pair
beside_pairs d ps qs = ps ++ map (shifted_pair (element_count d)) qs

sides : (t : Timing) (ts : List Timing) (u : Timing) (us : List Timing) → AreAlike t u → AllAlike ts us → AreAlike (side_by_side t ts) (side_by_side u us)
sides t [] u [] a all = a
sides t [] u (y ∷ us) a all = absurd all
sides t (x ∷ ts) u [] a all = absurd all
sides t (x ∷ ts) u (y ∷ us) a all =
    let rest = sides x ts y us all.0 all.1 in
    let first = side_by_side x ts in
    let second = side_by_side y us in
    record {
      flat = ap (λ (d : Design). beside_flat d first.flat) a.flat ∙ ap (λ (d : Design). beside_flat u.flat d) rest.flat;
      pairs = ap (λ (ps : List Pair). beside_pairs t.flat ps first.pairs) a.pairs ∙ ap (λ (d : Design). beside_pairs d u.pairs first.pairs) a.flat ∙ ap (λ (ps : List Pair). beside_pairs u.flat u.pairs ps) rest.pairs;
    }

at_alike : (ts us : List Timing) (t u : Timing) (c : ℕ) → AllAlike ts us → AreAlike t u → AreAlike (get_or ts c t) (get_or us c u)
at_alike [] [] t u zero all a = a
at_alike [] [] t u (suc c) all a = a
at_alike [] (y ∷ us) t u c all a = absurd all
at_alike (x ∷ ts) [] t u c all a = absurd all
at_alike (x ∷ ts) (y ∷ us) t u zero all a = all.0
at_alike (x ∷ ts) (y ∷ us) t u (suc c) all a = at_alike ts us t u c all.1 a

elements_turned : (design : Design) (pairs : List Pair) (a b : List ℕ) (m : Member) → IsOfElements (timing_of design pairs a) m → IsOfElements (timing_of design pairs b) m
elements_turned design pairs a b (member.Start p) h = h
elements_turned design pairs a b (member.Cycle p) h = h
elements_turned design pairs a b (member.Order p) h = h
elements_turned design pairs a b (member.Span p) h = h
elements_turned design pairs a b (member.Width p) h = h
elements_turned design pairs a b (member.Apart i j) h = h
elements_turned design pairs a b (member.Opening l) h = h
elements_turned design pairs a b (member.Opened l) h = h
elements_turned design pairs a b (member.Reach j l path) h = h
elements_turned design pairs a b (member.Setup l) h = h
elements_turned design pairs a b (member.Bound n) h = h

-- ---- links

-- the link of a member, in the designs that it is made of
abbrev link_with : Design → Design → Design → ℕ → Member → Link
link_with beside first own c (member.Opening l) = opening_link beside (among first c l)
link_with beside first own c (member.Opened l) = opened_link beside (among first c l)
link_with beside first own c (member.Reach j l path) = reach_link beside (among first c j) (among first c l) (greatest_delay own.arcs path)
link_with beside first own c (member.Setup l) = setup_link beside (among first c l)
link_with beside first own c m = link_of beside m

link_is : (t : Timing) (ts : List Timing) (c : ℕ) (m : Member) → link_in t ts c m ≡ link_with (side_by_side t ts).flat t.flat (corner_of t ts c).flat c m
link_is t ts c (member.Start p) = refl
link_is t ts c (member.Cycle p) = refl
link_is t ts c (member.Order p) = refl
link_is t ts c (member.Span p) = refl
link_is t ts c (member.Width p) = refl
link_is t ts c (member.Apart i j) = refl
link_is t ts c (member.Opening l) = refl
link_is t ts c (member.Opened l) = refl
link_is t ts c (member.Reach j l path) = refl
link_is t ts c (member.Setup l) = refl
link_is t ts c (member.Bound n) = refl

-- Of a first timing and the others, which are alike.
module _ (t : Timing) (ts : List Timing) (u : Timing) (us : List Timing) (a : AreAlike t u) (all : AllAlike ts us) where
  corner_alike : (c : ℕ) → AreAlike (corner_of t ts c) (corner_of u us c)
  corner_alike c = at_alike (t ∷ ts) (u ∷ us) t u c (a, all) a

  link_alike : (n : ℕ) (m : Member) → link_of_corner t ts n m ≡ link_of_corner u us n m
  link_alike zero m = ap (λ (d : Design). link_of d m) (sides t ts u us a all).flat
  link_alike (suc c) m =
      link_is t ts c m
      ∙ ap (λ (d : Design). link_with d t.flat (corner_of t ts c).flat c m) (sides t ts u us a all).flat
      ∙ ap (λ (d : Design). link_with (side_by_side u us).flat d (corner_of t ts c).flat c m) a.flat
      ∙ ap (λ (d : Design). link_with (side_by_side u us).flat u.flat d c m) (corner_alike c).flat
      ∙ sym (link_is u us c m)

  links_alike : (members : List CornerMember) → links_of_corners t ts members ≡ links_of_corners u us members
  links_alike [] = refl
  links_alike (m ∷ members) =
      ap (λ (k : Link). k ∷ links_of_corners t ts members) (link_alike m.corner m.member)
      ∙ ap (λ (ks : List Link). link_of_corner u us m.corner m.member ∷ ks) (links_alike members)

  of_corner_alike : (n : ℕ) (m : Member) → IsOfCorner t ts n m → IsOfCorner u us n m
  of_corner_alike zero m h =
      let side = sides t ts u us a all in
      (h.0, in_each_order (λ (x : Timing). IsMember x m) (λ design pairs x y. member_turned design pairs x y m) (side_by_side t ts) (side_by_side u us) side.flat side.pairs h.1)
  of_corner_alike (suc c) m h =
      let own = corner_alike c in
      let long = alike_long ts us all in
      let inside : c < length (u ∷ us) = omega (arith, h.0, long) in
      (inside, in_each_order (λ (x : Timing). IsOfElements x m) (λ design pairs x y. elements_turned design pairs x y m) (corner_of t ts c) (corner_of u us c) own.flat own.pairs h.1)

  ring_alike : (members : List CornerMember) → IsCornerRing t ts members → IsCornerRing u us members
  ring_alike members h = record {
    each = λ n d below. of_corner_alike (get_or members n d).corner (get_or members n d).member (h.each n d below);
    closed = subst (λ (ks : List Link). IsClosed (λ (k : Link). k.from) (λ (k : Link). k.to) ks) (links_alike members) h.closed;
  }

  valid_alike : (c : CornerCertificate) → IsCornerValid t ts c → IsCornerValid u us c
  valid_alike (joint.Least s ds chain) h = (
    jointly (t ∷ ts) (u ∷ us) (a, all) s ds h.0,
    ring_alike chain h.1,
    subst (λ (ks : List Link). IsTight ks s.cycle s.den) (links_alike chain) h.2,
  )
  valid_alike (joint.Never chain) h = (ring_alike chain h.0, subst IsStuck (links_alike chain) h.1)

  optimal_alike : (c : CornerCertificate) → IsCornerOptimal t ts c → IsCornerOptimal u us c
  optimal_alike (joint.Least s ds chain) h = (jointly (t ∷ ts) (u ∷ us) (a, all) s ds h.0, joint_cycle (t ∷ ts) (u ∷ us) (a, all) s.cycle s.den h.1)
  optimal_alike (joint.Never chain) h = λ s ds right. h s ds (jointly (u ∷ us) (t ∷ ts) (alike_back t u a, all_back ts us all) s ds right)

  earliest_alike : (c : CornerCertificate) → HasJointEarliest t ts c → HasJointEarliest u us c
  earliest_alike (joint.Least s ds chain) h =
      let side = sides t ts u us a all in
      in_each_order (λ (x : Timing). IsEarliest x.flat (links_of x) s (flat_map (λ d. d) ds)) (λ design pairs x y h. h) (side_by_side t ts) (side_by_side u us) side.flat side.pairs h
  earliest_alike (joint.Never chain) h = tt

  simple_alike : (c : CornerCertificate) → HasJointSimple t ts c → HasJointSimple u us c
  simple_alike (joint.Least s ds chain) h = subst (λ (ks : List Link). AllPairs (λ (x y : Link). x.to ≢ y.to) ks) (links_alike chain) h
  simple_alike (joint.Never chain) h = subst (λ (ks : List Link). AllPairs (λ (x y : Link). x.to ≢ y.to) ks) (links_alike chain) h

  optimum_alike : (c : CornerCertificate) → IsCornerOptimum t ts c → IsCornerOptimum u us c
  optimum_alike c h = record {
    valid = valid_alike c h.valid;
    optimal = optimal_alike c h.optimal;
    earliest = earliest_alike c h.earliest;
    simple = simple_alike c h.simple;
    in_range = h.in_range;
  }

pub optimum_of_alike : (ts us : List Timing) (c : CornerCertificate) → AllAlike ts us → IsOptimumOf ts c → IsOptimumOf us c
optimum_of_alike [] us c all h = absurd h
optimum_of_alike (t ∷ ts) [] c all h = absurd all
optimum_of_alike (t ∷ ts) (u ∷ us) c all h = optimum_alike t ts u us all.0 all.1 c h
