-- The sums of a chain, added one link at a time, are small.
use Rattle.std.proofs.Common.{◌≡◌, ◌≢◌, ℕ, zero, suc, ◌+◌, ◌*◌, ◌<◌, ◌≤◌, ℤ, pos, ◌+ℤ◌, ◌≤ℤ◌, List, [], ◌∷◌, length, get_or, take, map, arith, refl, sym, ap, ◌∙◌, SFits, w64, All}
use Rattle.std.specs.List.{AllPairs}
use Rattle.std.proofs.lemmas.Int.{ints}
use Rattle.std.proofs.lemmas.Bool.Decides.{Decides-eqb}
use Rattle.std.proofs.lemmas.List.{get_or-map, length-map, take_more, take_all, map-append}
use Rattle.std.proofs.lemmas.Map.Made.{IsDistinct-from_AllPairs}
use Rattle.std.proofs.lemmas.Map.Steps.{length-le_from_distinct_below}
use Rattle.std.proofs.lemmas.Map.Views.{Contains-from_any}
use Rattle.mintc_graph_walks.specs.Bounds.{IsWithin}
use Rattle.mintc_timing.specs.declared.link.Link.{Link}
use Rattle.mintc_graph.specs.Rings.{total}
use Rattle.mintc_timing.specs.Links.{no_link, delay_of, cycles_of, link_at}
use Rattle.mintc_graph.proofs.SharedRingLaws.{total-append}
use Rattle.mintc_constraints.specs.Ordinary.{IsOrdinary, IsOrdinaryLink, constraints_of}
use Rattle.mintc_ratio.specs.Chains.{NamesChain, links_at}
use Rattle.mintc_ratio.specs.Sums.{IsSmall}

-- numbers below n, no two of them equal, are at most n
few_distinct : (n : ℕ) (xs : List ℕ) → AllPairs (λ x y. x ≢ y) xs → All (λ x. x < n) xs → length xs ≤ n
few_distinct n xs apart below =
    length-le_from_distinct_below xs n (IsDistinct-from_AllPairs Decides-eqb xs apart)
    (λ q h. let at = Contains-from_any (λ x y e. (Decides-eqb x y).0 e) q xs h in let b : get_or xs at.0 q < n = below at.0 q at.1 in let e : get_or xs at.0 q ≡ q = at.2 in omega arith)

module _ (nodes : ℕ) (links : List Link) (ordinary : IsOrdinary (constraints_of nodes links)) where
  pub ordinary-at : (e : ℕ) → e < length links → IsOrdinaryLink nodes (link_at links e)
  ordinary-at e h = ordinary.each e no_link h

  -- A chain has at most a link for each node, since it enters no node twice.
  pub few_links : (chain : List ℕ) → NamesChain links chain → length chain ≤ nodes
  few_links chain named = let few = few_distinct nodes (map to_of chain) apart below in omega (arith, length-map chain to_of)
    where
      to_of : ℕ → ℕ
      to_of e = (link_at links e).to

      at : (k d : ℕ) → k < length chain → get_or (map to_of chain) k d ≡ to_of (get_or chain k 0)
      at k d h = get_or-map to_of chain k 0 d h

      apart : AllPairs (λ x y. x ≢ y) (map to_of chain)
      apart i j d lt within =
          let k : j < length chain = omega (arith, length-map chain to_of) in
          λ e. named.once i j 0 lt k (sym (at i d (omega arith)) ∙ e ∙ at j d k)

      below : All (λ x. x < nodes) (map to_of chain)
      below k d within =
          let h : k < length chain = omega (arith, length-map chain to_of) in
          let b = (ordinary-at (get_or chain k 0) (named.exist k 0 h)).to in
          omega (arith, at k d h)

-- the sums of the first links of a chain, and of one more
pub links-more : (links : List Link) (chain : List ℕ) (i : ℕ) → i < length chain → (f : Link → ℤ) → total f (links_at links (take (i + 1) chain)) ≡ total f (links_at links (take i chain)) +ℤ f (link_at links (get_or chain i 0))
links-more links chain i h f =
    let step = take_more chain i 0 h in
    ap (λ (x : List ℕ). total f (links_at links x)) step
    ∙ ap (total f) (map-append (link_at links) (take i chain) (get_or chain i 0 ∷ []))
    ∙ total-append f (links_at links (take i chain)) (links_at links (get_or chain i 0 ∷ []))
    ∙ last (total f (links_at links (take i chain))) (f (link_at links (get_or chain i 0)))
  where
    last : (x y : ℤ) → x +ℤ total (λ (z : ℤ). z) (y ∷ []) ≡ x +ℤ y
    last x y = omega (arith, ints)

-- what the sums of some links of a chain keep
pub record IsSummed (links : List Link) (chain : List ℕ) (i : ℕ) (delay : ℤ) (cycles : ℕ) : Type 0 where
  pub delay_is : delay_of (links_at links (take i chain)) ≡ delay
  pub cycles_is : cycles_of (links_at links (take i chain)) ≡ pos cycles
  pub few : cycles ≤ i
  pub most : delay ≤ℤ pos (i * 2000000000)
  pub within : IsWithin (i * 4000000000) delay

pub summed-none : (links : List Link) (chain : List ℕ) → IsSummed links chain 0 (pos 0) 0
summed-none links chain = record { delay_is = refl; cycles_is = refl; few = omega arith; most = omega (arith, ints); within = (omega (arith, ints), omega (arith, ints)) }

pub summed-more : (nodes : ℕ) (links : List Link) (chain : List ℕ) (i : ℕ) (delay : ℤ) (cycles : ℕ) → i < length chain → IsOrdinaryLink nodes (link_at links (get_or chain i 0)) → IsSummed links chain i delay cycles →
    IsSummed links chain (i + 1) (delay +ℤ (link_at links (get_or chain i 0)).delay) (cycles + (link_at links (get_or chain i 0)).cycles)
summed-more nodes links chain i delay cycles h ordinary s =
    let k = link_at links (get_or chain i 0) in
    let d = links-more links chain i h (λ x. x.delay) in
    let t = links-more links chain i h (λ x. pos x.cycles) in
    let before = s.delay_is in
    let turns = s.cycles_is in
    record {
      delay_is = d ∙ ap (λ (z : ℤ). z +ℤ k.delay) before;
      cycles_is = t ∙ ap (λ (z : ℤ). z +ℤ pos k.cycles) turns;
      few = omega (arith, s.few, ordinary.cycles);
      most = omega (arith, ints, s.most, ordinary.delay);
      within = (omega (arith, ints, s.within, ordinary.delay), omega (arith, ints, s.within, ordinary.delay));
    }

pub sum-fits : (i : ℕ) (x y : ℤ) → i < 20017 → IsWithin (i * 4000000000) x → IsWithin 4000000000 y → SFits w64 (x +ℤ y)
sum-fits i x y lt h k = omega (arith, ints)

pub small-summed : (nodes : ℕ) (links : List Link) → IsOrdinary (constraints_of nodes links) → (chain : List ℕ) → NamesChain links chain → (i : ℕ) (delay : ℤ) (cycles : ℕ) → i ≤ length chain → IsSummed links chain i delay cycles →
    IsSmall nodes (record { delay = delay; cycles = cycles })
small-summed nodes links ordinary chain named i delay cycles h s =
    let all = few_links nodes links ordinary chain named in
    let few = s.few in let most = s.most in let a = s.within.0 in let b = s.within.1 in
    record { cycles = omega arith; delay = omega (arith, ints); range = (omega (arith, ints), omega (arith, ints)) }

-- the delay of a chain that enters no node twice, whatever its sums are
module _ (nodes : ℕ) (links : List Link) (ordinary : IsOrdinary (constraints_of nodes links)) (chain : List ℕ) (named : NamesChain links chain) where
  delay_most : (i : ℕ) → i ≤ length chain → delay_of (links_at links (take i chain)) ≤ℤ pos (i * 2000000000)
  delay_most zero h = omega (arith, ints)
  delay_most (suc i) h =
      let more = links-more links chain i (omega arith) (λ x. x.delay) in
      let before = delay_most i (omega arith) in
      let high = (ordinary-at nodes links ordinary (get_or chain i 0) (named.exist i 0 (omega arith))).delay.1 in
      let next : suc i ≡ i + 1 = omega arith in
      let same : take (suc i) chain ≡ take (i + 1) chain = ap (λ (k : ℕ). take k chain) next in
      rw same (omega (arith, ints))

  pub small-named : delay_of (links_at links chain) ≤ℤ pos (nodes * 2000000000)
  small-named =
      let few = few_links nodes links ordinary chain named in
      let most = delay_most (length chain) (omega arith) in
      let all : take (length chain) chain ≡ chain = take_all (length chain) chain (omega arith) in
      let whole = rw all at most in
      omega (arith, ints)
