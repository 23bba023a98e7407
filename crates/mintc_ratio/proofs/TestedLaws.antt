-- What a walk over the weighed links of a list leaves: their greatest walks, or a chain.
use Rattle.std.proofs.Common.{◌≡◌, ◌≢◌, ℕ, ℤ, pos, ◌^◌, ◌≤ℤ◌, ◌<ℤ◌, ◌<◌, List, [], ◌∷◌, length, take, get_or, ⊎_elim, refl, sym, ap, subst, arith, ◌∙◌, All, to_z, of_z, lit<}
use Rattle.std.specs.Int.{w128}
use Rattle.std.proofs.lemmas.Int.{ints, to_z-of_z}
use Rattle.std.proofs.lemmas.List.{length-map, take_all, get_or_default}
use Rattle.std.proofs.lemmas.List.Elements.{All-head}
use Rattle.std.proofs.lemmas.Bool.{cases_eq}
use Rattle.mintc_fraction.specs.Ratio.{Ratio, over}
use Rattle.mintc_timing.specs.declared.link.Link.{Link}
use Rattle.mintc_graph.specs.Rings.{IsClosed}
use Rattle.mintc_timing.specs.Links.{Forbids, IsMet, no_link, link_at}
use Rattle.mintc_graph.proofs.SharedRingLaws.{listed, numbers_of, exist-leads, closed-leads, leads-closed}
use Rattle.mintc_constraints.specs.Ordinary.{Leads, IsOrdinaryLink}
use Rattle.mintc_graph_walks.specs.declared.network.TheConstants.{UNREACHED}
use Rattle.mintc_graph_walks.specs.Bounds.{IsWithin}
use Rattle.mintc_graph_walks.specs.Walks.{value_at, IsStart, IsReached}
use Rattle.mintc_graph_walks.specs.Answers.{Meets, HasGreatest, HasChain}
use Rattle.mintc_ratio.specs.Chains.{links_at, NamesChain}
use Rattle.mintc_ratio.specs.Greatest.{asked_by, AreGreatest}
use Rattle.mintc_ratio.specs.Tested.{NoneForbids}
use Rattle.mintc_ratio.specs.LinksAt.{IsTestable, arcs_of}
use Rattle.mintc_ratio.proofs.Weights.{fits_128, num_within, den_within}
use Rattle.mintc_ratio.proofs.Weighing.{from_is, to_is, weight_is, arcs-from_links, links-from_arcs, weight-asked}

-- the time at which the code weighs the links
pub time_same : (at : Ratio) (n d : ℤ) → n ≡ at.num → d ≡ at.den → IsTestable at → over (to_z w128 (of_z w128 n)) (to_z w128 (of_z w128 d)) ≡ at
time_same at n d e f t =
    rw (
      e,
      f,
      to_z-of_z w128 at.num (fits_128 (10 ^ 23) at.num (lit< tt) (num_within (pos 0) (pos 0) at.num at.den refl zero_within t)),
      to_z-of_z w128 at.den (fits_128 (10 ^ 9) at.den (lit< tt) (den_within (pos 0) (pos 0) at.num at.den refl zero_within t)),
    ) refl
  where
    zero_within : IsWithin 4000000000 (pos 0)
    zero_within = (omega (arith, ints), omega (arith, ints))

first-exists : (P : ℕ → Type 0) (es : List ℕ) → es ≢ [] → All P es → P (get_or es 0 0)
first-exists P [] some h = absurd (some refl)
first-exists P (e ∷ es) some h = All-head P e es h

-- ---- at one cycle time

module _ (at : Ratio) (links : List Link) where
  -- a walk round which more than nothing is asked for is a chain that forbids the time
  forbids-asked : (es : List ℕ) → pos 0 <ℤ asked_by at (links_at links es) → Forbids (links_at links es) at.num at.den
  forbids-asked es h = omega (arith, ints)

  asked-forbids : (es : List ℕ) → Forbids (links_at links es) at.num at.den → pos 0 <ℤ asked_by at (links_at links es)
  asked-forbids es h = omega (arith, ints)

  asked-nothing : asked_by at (links_at links []) ≡ pos 0
  asked-nothing = omega (arith, ints)

  -- the chain of an answer
  pub chain-named : (starts : List ℤ) (chain : List ℕ) (len : ℕ) → HasChain (arcs_of at links) starts chain len → length chain ≡ len →
      NamesChain links chain × Forbids (links_at links chain) at.num at.den
  chain-named starts chain len c whole =
      let all : take len chain ≡ chain = take_all len chain (omega arith) in
      let p = rw all at c.positive in
      let v = p.closed.0 in
      let leads = links-from_arcs at links chain v v p.closed.1 in
      let weight = weight-asked at links chain v v leads in
      let positive = p.positive in
      let asked : pos 0 <ℤ asked_by at (links_at links chain) = omega (arith, ints) in
      let some : chain ≢ [] = λ e. let none : asked_by at (links_at links chain) ≡ pos 0 = ap (λ (x : List ℕ). asked_by at (links_at links x)) e ∙ asked-nothing in absurd (omega (arith, ints)) in
      let exist = exist-leads (λ (k : Link). k.from) (λ (k : Link). k.to) no_link links v chain v leads in (
        record {
          exist = exist;
          chain = record { listed = listed no_link links chain exist; closed = closed-leads (λ (k : Link). k.from) (λ (k : Link). k.to) no_link links v chain some leads };
          once = λ i j d l m. λ q. p.apart i j d l m (to_is at links (get_or chain i d) ∙ q ∙ sym (to_is at links (get_or chain j d)));
        },
        forbids-asked chain asked,
      )

  module _ (n : ℕ) (starts values : List ℤ) (few : length starts ≡ n) (some : 0 < n) (origin : value_at starts 0 ≡ pos 0) (others : (v : ℕ) → v < n → v ≢ 0 → value_at starts v ≡ UNREACHED) where
    only_origin : (u : ℕ) → IsStart starts u → u ≡ 0
    only_origin u s = ⊎_elim (λ e. e) (λ e. let o = others u (rw few at s.0) e in let r = s.1 in absurd (omega (arith, ints))) (cases_eq u 0)

    start : IsStart starts 0
    start = (rw few some, rw origin (omega (arith, ints)))

    module _ (g : HasGreatest (arcs_of at links) starts values) (each : All (IsOrdinaryLink n) links) (reach : (v : ℕ) → v < n → (walk : List ℕ) × Leads links 0 walk v) where
      ordinary : (e : ℕ) → e < length links → IsOrdinaryLink n (link_at links e)
      ordinary e h = each e no_link h

      all_reached : (v : ℕ) → v < n → IsReached values v
      all_reached v h = let r = reach v h in g.reached 0 r.0 v start (arcs-from_links at links r.0 0 v r.1)

      attained : (v : ℕ) → v < n → (walk : List ℕ) × Leads links 0 walk v × (asked_by at (links_at links walk) ≡ value_at values v)
      attained v h =
          let a = (g.greatest v (rw few h) (all_reached v h)).attained in
          let z = only_origin a.0 a.2 in
          let l = rw z at a.3 in
          let k = links-from_arcs at links a.1 0 v l in
          let c = weight-asked at links a.1 0 v k in
          let s : value_at starts a.0 ≡ pos 0 = rw z origin in
          let e = a.4 in
          (a.1, k, omega (arith, ints))

      bound : (v : ℕ) → v < n → (walk : List ℕ) → Leads links 0 walk v → asked_by at (links_at links walk) ≤ℤ value_at values v
      bound v h walk k =
          let m = (g.greatest v (rw few h) (all_reached v h)).none_greater 0 walk start (arcs-from_links at links walk 0 v k) in
          let c = weight-asked at links walk 0 v k in
          omega (arith, ints)

      at_origin : value_at values 0 ≡ pos 0
      at_origin =
          let a = attained 0 some in
          let m = bound 0 some [] refl in
          let f = g.no_chain 0 a.0 (all_reached 0 some) (arcs-from_links at links a.0 0 0 a.1) in
          let c = weight-asked at links a.0 0 0 a.1 in
          let e = a.2 in
          omega (arith, ints)

      met : All (IsMet at.num at.den (value_at values)) links
      met e d h =
          let is : get_or links e d ≡ link_at links e = get_or_default links e d no_link h in
          let r = all_reached (link_at links e).from (ordinary e h).from in
          let m = (g.met e (simp length-map h) (rw (from_is at) r)).1 in
          let w = weight_is at links e h in
          let f = ap (value_at values) (from_is at links e) in
          let t = ap (value_at values) (to_is at links e) in
          let holds : IsMet at.num at.den (value_at values) (link_at links e) = omega (arith, ints) in
          rw is holds

      least : (value : ℕ → ℤ) → value 0 ≡ pos 0 → All (IsMet at.num at.den value) links → (v : ℕ) → v < n → value_at values v ≤ℤ value v
      least x z m v h =
          let meets : Meets (arcs_of at links) x = λ e l.
          let l' : e < length links = simp length-map at l in
          let w = weight_is at links e l' in
          let f = ap x (from_is at links e) in
          let t = ap x (to_is at links e) in
          let q = m e no_link l' in
          omega (arith, ints) in
          let above : (u : ℕ) → IsStart starts u → value_at starts u ≤ℤ x u = λ u s. let o = only_origin u s in rw (o, origin, z) (omega (arith, ints)) in
          g.least x meets above v (rw few h) (all_reached v h)

      pub none-from_walks : NoneForbids links at
      none-from_walks chain is_chain forbids =
          let ns = numbers_of no_link links chain is_chain.listed in
          let es = ns.0 in
          let closed = leads-closed (λ (k : Link). k.from) (λ (k : Link). k.to) no_link links es ns.2 (subst (λ (x : List Link). IsClosed (λ k. k.from) (λ k. k.to) x) (sym ns.1) is_chain.closed) in
          let v = closed.0 in
          let asked = asked-forbids es (subst (λ (x : List Link). Forbids x at.num at.den) (sym ns.1) forbids) in
          let inside : v < n = rw closed.1 (ordinary (get_or es 0 0) (first-exists (λ e. e < length links) es closed.2 ns.2)).from in
          let m = g.no_chain v es (all_reached v inside) (arcs-from_links at links es v v closed.3) in
          let c = weight-asked at links es v v closed.3 in
          omega (arith, ints)

      pub greatest-from_walks : length values ≡ n → AreGreatest (record { nodes = n; links = links }) at values
      greatest-from_walks count = record {
        count = count;
        origin = at_origin;
        greatest = λ v h. record { attained = attained v h; bound = bound v h };
        met = met;
        least = least;
      }
