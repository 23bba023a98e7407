-- Links as arcs that weigh what they ask for at a cycle time.
use Rattle.std.proofs.Common.{◌≡◌, ℕ, zero, suc, ℤ, pos, ◌^◌, ◌<◌, List, [], ◌∷◌, length, refl, sym, arith, to_z, of_z, lit<, All}
use Rattle.std.specs.Int.{w128}
use Rattle.std.proofs.lemmas.Int.{ints, to_z-of_z}
use Rattle.std.proofs.lemmas.List.{get_or-map, length-map}
use Rattle.mintc_fraction.specs.Ratio.{Ratio}
use Rattle.mintc_timing.specs.declared.link.Link.{Link}
use Rattle.mintc_timing.specs.Links.{no_link, delay_of, cycles_of, link_at}
use Rattle.mintc_constraints.specs.Ordinary.{Leads, IsOrdinaryLink}
use Rattle.mintc_graph.proofs.SharedRingLaws.{LeadsBy-map, LeadsBy-of_map}
use Rattle.mintc_graph_walks.specs.declared.network.Arc.{Arc}
use Rattle.mintc_graph_walks.specs.Bounds.{IsWithin, AreOrdinary}
use Rattle.mintc_graph_walks.specs.Walks.{arc_at, no_arc, weight_of}
use Rattle.mintc_graph_walks.specs.Walks as walks
use Rattle.mintc_ratio.specs.Chains.{links_at}
use Rattle.mintc_ratio.specs.Greatest.{asked_by, asked_by_link}
use Rattle.mintc_ratio.specs.LinksAt.{IsTestable, weighed, arcs_of}
use Rattle.mintc_ratio.proofs.Weights.{weight_step, weight_small, fits_128}

pub delay-within : (n : ℕ) (k : Link) → IsOrdinaryLink n k → IsWithin 4000000000 k.delay
delay-within n k h = let low = h.delay.0 in let high = h.delay.1 in (omega (arith, ints), omega (arith, ints))

module _ (at : Ratio) where
  -- a link's ends are its arc's, past the end too
  pub from_is : (links : List Link) (e : ℕ) → (arc_at (arcs_of at links) e).from ≡ (link_at links e).from
  from_is [] e = refl
  from_is (k ∷ links) zero = refl
  from_is (k ∷ links) (suc e) = from_is links e

  pub to_is : (links : List Link) (e : ℕ) → (arc_at (arcs_of at links) e).to ≡ (link_at links e).to
  to_is [] e = refl
  to_is (k ∷ links) zero = refl
  to_is (k ∷ links) (suc e) = to_is links e

  pub weight_is : (links : List Link) (e : ℕ) → e < length links → (arc_at (arcs_of at links) e).weight ≡ asked_by_link at (link_at links e)
  weight_is [] e h = absurd (omega arith)
  weight_is (k ∷ links) zero h = refl
  weight_is (k ∷ links) (suc e) h = weight_is links e (omega arith)

  -- what the code's `arc` returns
  pub arc_is : (links : List Link) (e : ℕ) (w : ℤ) → e < length links → w ≡ asked_by_link at (link_at links e) → IsWithin (2 ^ 80) w →
      ◌≡◌ {A = Arc} (record { from = (link_at links e).from; to = (link_at links e).to; weight = to_z w128 (of_z w128 w) }) (arc_at (arcs_of at links) e)
  arc_is links e w h q small =
      rw (to_z-of_z w128 w (fits_128 (2 ^ 80) w (lit< tt) small), q)
      (sym (get_or-map (weighed at) links e no_link no_arc h))

  module _ (links : List Link) where
    pub arcs-from_links : (es : List ℕ) (u v : ℕ) → Leads links u es v → walks.Leads (arcs_of at links) u es v
    arcs-from_links = LeadsBy-map (λ (k : Link). k.from) (λ (k : Link). k.to) no_link (λ (x : Arc). x.from) (λ (x : Arc). x.to) no_arc (weighed at) links (λ k. (refl, refl))

    pub links-from_arcs : (es : List ℕ) (u v : ℕ) → walks.Leads (arcs_of at links) u es v → Leads links u es v
    links-from_arcs = LeadsBy-of_map (λ (k : Link). k.from) (λ (k : Link). k.to) no_link (λ (x : Arc). x.from) (λ (x : Arc). x.to) no_arc (weighed at) links (λ k. (refl, refl))

    -- what a walk asks for is its weight
    pub weight-asked : (es : List ℕ) (u v : ℕ) → Leads links u es v → weight_of (arcs_of at links) es ≡ asked_by at (links_at links es)
    weight-asked [] u v h = omega (arith, ints)
    weight-asked (e ∷ es) u v h =
        let i = weight-asked es (link_at links e).to v h.2 in
        let w = weight_is links e h.0 in
        rw (w, i) (weight_step (link_at links e).delay (delay_of (links_at links es)) at.den at.num (pos (link_at links e).cycles) (cycles_of (links_at links es)))

    pub AreOrdinary-from_links : (n : ℕ) → All (IsOrdinaryLink n) links → IsTestable at → AreOrdinary n (arcs_of at links)
    AreOrdinary-from_links n each t e h =
        let h' : e < length links = simp length-map at h in
        let f : IsOrdinaryLink n (link_at links e) = each e no_link h' in
        let delay = delay-within n (link_at links e) f in
        (rw from_is f.from, rw to_is f.to, rw (weight_is links e h') (weight_small (link_at links e).delay at.num at.den (link_at links e).cycles f.cycles delay t))
