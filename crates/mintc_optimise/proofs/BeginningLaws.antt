-- The places of a chain's links, and which of them comes first in the list of links.
use Rattle.std.proofs.Common.{◌≡◌, ◌≢◌, ℕ, ◌+◌, ◌<◌, ◌≤◌, ◌↔◌, Bool, false, ◌⊎◌, inl, inr, List, [], ◌∷◌, length, get_or, map, arith, refl, sym, subst, ap, ◌∙◌, All, AllPairs}
use Rattle.std.specs.Prelude.{slice_set, IsTrue}
use Rattle.std.proofs.lemmas.Bool.{cases_lt}
use Rattle.std.proofs.lemmas.Grind.{get_or-set_at}
use Rattle.std.proofs.lemmas.List.{get_or_default, get_or-set_other, get_or-map, length-map, length-set}
use Rattle.mintc_timing.specs.declared.link.Link.{Link}
use Rattle.mintc_graph.specs.Rings.{IsClosed}
use Rattle.mintc_timing.specs.Links.{link_at, no_link}
use Rattle.mintc_ratio.specs.Chains.{NamesChain, links_at}
use Rattle.mintc_optimise.specs.Beginning.{ArePlaces, AskTheSame, ComesFirst, IsAbsent, IsBeginning}

module _ (links : List Link) (chain : List ℕ) where
  -- the node that the chain's link at a place enters
  abbrev pub entered : ℕ → ℕ
  entered i = (link_at links (get_or chain i 0)).to

  pub placed_none : (nodes : ℕ) (places : List ℕ) → length places ≡ nodes → ArePlaces nodes links chain 0 places
  placed_none nodes places count = record { each_node = count; there = λ i h. absurd (omega (arith, h)) }

  -- one more link is absent
  pub absent_more : (n : ℕ) → ((e : ℕ) → e < n → IsAbsent (links_at links chain) (link_at links e)) → IsAbsent (links_at links chain) (link_at links n) →
      (e : ℕ) → e < n + 1 → IsAbsent (links_at links chain) (link_at links e)
  absent_more n before here e h = at (cases_lt e n)
    where
      at : (e < n) ⊎ (n ≤ e) → IsAbsent (links_at links chain) (link_at links e)
      at (inl less) = before e less
      at (inr more) = let same : n ≡ e = omega (arith, h) in subst (λ (i : ℕ). IsAbsent (links_at links chain) (link_at links i)) same here

  module _ (named : NamesChain links chain) where
    -- one more link has its place
    pub placed_more : (nodes place : ℕ) (places : List ℕ) → place < length chain → entered place < nodes → ArePlaces nodes links chain place places →
        ArePlaces nodes links chain (place + 1) (slice_set places (entered place) place)
    placed_more nodes place places inside below old = record {
      each_node = length-set places (entered place) place ∙ old.each_node;
      there = λ i h. at i h (cases_lt i place);
    }
      where
        at : (i : ℕ) → i < place + 1 → (i < place) ⊎ (place ≤ i) → get_or (slice_set places (entered place) place) (entered i) 0 ≡ i
        at i h (inl less) =
            get_or-set_other places (entered place) (entered i) place 0 (λ e. named.once i place 0 less inside e) ∙ old.there i less
        at i h (inr more) =
            let same : i ≡ place = omega arith in
            get_or-set_at places (entered place) (entered i) place 0 (ap entered same) (omega (arith, below, old.each_node)) ∙ sym same

    links_is : (i : ℕ) → i < length chain → link_at (links_at links chain) i ≡ link_at links (get_or chain i 0)
    links_is i h = get_or-map (link_at links) chain i 0 no_link h

    -- what is found at a place comes first
    pub found_first : (place number : ℕ) → place < length chain → number < length links → AskTheSame (link_at links number) (link_at links (get_or chain place 0)) →
        ((e : ℕ) → e < number → IsAbsent (links_at links chain) (link_at links e)) → IsBeginning links (links_at links chain) place
    found_first place number inside below same none = (
      number,
      record {
        inside = rw (length-map chain (link_at links)) inside;
        listed = below;
        same = rw (links_is place inside) same;
        none_before = none;
      },
    )

    module _ (nodes : ℕ) (places : List ℕ) (are : ArePlaces nodes links chain (length chain) places) where
      -- A link that isn't at the place of the node that it enters isn't in the chain.
      pub absent : (k : Link) → ((get_or places k.to 0 < length chain) × AskTheSame k (link_at links (get_or chain (get_or places k.to 0) 0)) → ⊥) → IsAbsent (links_at links chain) k
      absent k not_there i d h same =
          let inside : i < length chain = omega (arith, length-map chain (link_at links)) in
          let is : get_or (links_at links chain) i d ≡ link_at links (get_or chain i 0) = get_or-map (link_at links) chain i 0 d inside in
          let asked : AskTheSame k (link_at links (get_or chain i 0)) = rw is at same in
          let place : get_or places k.to 0 ≡ i = ap (λ (n : ℕ). get_or places n 0) asked.1 ∙ are.there i inside in
          not_there (rw place (inside, asked))

      -- So it is with a link that the code reads.
      pub absent_read : (number : ℕ) (d : Link) (b : Bool) → number < length links →
          IsTrue b ↔ ((get_or places (get_or links number d).to 0 < length chain) × AskTheSame (get_or links number d) (link_at links (get_or chain (get_or places (get_or links number d).to 0) 0))) → b ≡ false →
          IsAbsent (links_at links chain) (link_at links number)
      absent_read number d b below test is =
          subst (IsAbsent (links_at links chain)) (get_or_default links number d no_link below) (absent (get_or links number d) (λ h. refuted b is (test.1 h)))
        where
          refuted : (b : Bool) → b ≡ false → IsTrue b → ⊥
          refuted b is said = grind (arith, is, said)

    -- Some link of the list is in the chain.
    pub some_found : ((e : ℕ) → e < length links → IsAbsent (links_at links chain) (link_at links e)) → ⊥
    some_found none = first chain named.exist named.chain.closed none
      where
        first : (es : List ℕ) → All (λ e. e < length links) es → IsClosed (λ (k : Link). k.from) (λ (k : Link). k.to) (links_at links es) →
            ((e : ℕ) → e < length links → IsAbsent (links_at links es) (link_at links e)) → ⊥
        first [] exist closed absent = closed
        first (e ∷ es) exist closed absent = absent e (exist 0 0 (omega arith)) 0 no_link (omega arith) (refl, refl, refl, refl)
