-- Walks that enter a node twice: a shorter walk between the same nodes, and a closed walk.
use Rattle.std.proofs.Common.{◌≡◌, ◌≢◌, ℕ, ◌+◌, ◌<◌, ◌≤◌, ℤ, pos, ◌+ℤ◌, ◌≤ℤ◌, List, [], ◌∷◌, ◌++◌, length, get_or, map, refl, sym, ap, subst, ◌∙◌, ◌⊎◌, inl, inr, ⊎_elim, arith}
use Rattle.std.specs.List.{All, AllPairs}
use Rattle.std.proofs.lemmas.Int.{ints}
use Rattle.std.proofs.lemmas.Bool.{cases_eq}
use Rattle.std.proofs.lemmas.Bool.Decides.{Decides-eqb}
use Rattle.std.proofs.lemmas.List.{get_or-map, length-map, length-append, map-append}
use Rattle.std.proofs.lemmas.List.Elements.{All-nil, All-cons}
use Rattle.std.proofs.lemmas.List.Kept.{AllPairs-cons}
use Rattle.std.proofs.lemmas.Map.Made.{IsDistinct-from_AllPairs}
use Rattle.std.proofs.lemmas.Map.Steps.{length-le_from_distinct_below}
use Rattle.std.proofs.lemmas.Map.Views.{Contains-from_any}
use Rattle.mintc_timing.specs.declared.link.Link.{Link}
use Rattle.mintc_timing.specs.Links.{no_link, link_at, delay_of, cycles_of}
use Rattle.mintc_graph.specs.Rings.{total}
use Rattle.mintc_graph.proofs.SharedRingLaws.{LeadsBy-append, exist-leads, total-append}
use Rattle.mintc_constraints.specs.Ordinary.{Leads, IsOrdinaryLink}
use Rattle.mintc_ratio.specs.Chains.{links_at}

-- numbers below n, no two of them equal, are at most n
few_distinct : (n : ℕ) (xs : List ℕ) → AllPairs (λ x y. x ≢ y) xs → All (λ x. x < n) xs → length xs ≤ n
few_distinct n xs apart below =
    length-le_from_distinct_below xs n (IsDistinct-from_AllPairs Decides-eqb xs apart)
    (λ q h. let at = Contains-from_any (λ x y e. (Decides-eqb x y).0 e) q xs h in let b : get_or xs at.0 q < n = below at.0 q at.1 in let e : get_or xs at.0 q ≡ q = at.2 in omega arith)

-- the cycles of links are at least none
pub cycles_low : (ks : List Link) → pos 0 ≤ℤ cycles_of ks
cycles_low [] = omega (arith, ints)
cycles_low (k ∷ ks) = let rest = cycles_low ks in omega (arith, ints)

module _ (links : List Link) where
  -- where a link ends
  abbrev pub end : ℕ → ℕ
  end e = (link_at links e).to

  -- No two links of the walk enter one node.
  abbrev pub AreApart : List ℕ → Type 0
  AreApart w = AllPairs (λ a b. end a ≢ end b) w

  -- what its links have together
  abbrev pub delay : List ℕ → ℤ
  delay w = delay_of (links_at links w)

  abbrev pub cycles : List ℕ → ℤ
  cycles w = cycles_of (links_at links w)

  sum-append : (f : Link → ℤ) (x y : List ℕ) → total f (links_at links (x ++ y)) ≡ total f (links_at links x) +ℤ total f (links_at links y)
  sum-append f x y = ap (total f) (map-append (link_at links) x y) ∙ total-append f (links_at links x) (links_at links y)

  sum-cons : (f : Link → ℤ) (e : ℕ) (y : List ℕ) → total f (links_at links (e ∷ y)) ≡ f (link_at links e) +ℤ total f (links_at links y)
  sum-cons f e y = refl

  -- a walk by its parts
  leads-parts : (a : ℕ) (x y : List ℕ) (b : ℕ) → Leads links a (x ++ y) b → (m : ℕ) × Leads links a x m × Leads links m y b
  leads-parts a [] y b h = (a, refl, h)
  leads-parts a (e ∷ x) y b h = let rest = leads-parts (end e) x y b h.2 in (rest.0, (h.0, h.1, rest.1), rest.2)

  -- Some later link of the walk enters this node, or none does.
  abbrev Enters : ℕ → List ℕ → Type 0
  Enters node w = (x : List ℕ) × (f : ℕ) × (y : List ℕ) × (w ≡ x ++ f ∷ y) × (node ≡ end f)

  find : (node : ℕ) (w : List ℕ) → Enters node w ⊎ All (λ f. node ≢ end f) w
  find node [] = inr (All-nil (λ f. node ≢ end f))
  find node (f ∷ w) =
      ⊎_elim
      (λ (here : node ≡ end f). inl ([], f, w, refl, here))
      (λ (apart : node ≢ end f).
      ⊎_elim
      (λ (later : Enters node w). inl (f ∷ later.0, later.1, later.2, ap (λ (v : List ℕ). f ∷ v) later.3, later.4))
      (λ (none : All (λ g. node ≢ end g) w). inr (All-cons (λ g. node ≢ end g) f w apart none))
      (find node w))
      (cases_eq node (end f))

  -- Two links of it enter one node, or no two do.
  abbrev EntersTwice : List ℕ → Type 0
  EntersTwice w = (x : List ℕ) × (e : ℕ) × (y : List ℕ) × (f : ℕ) × (z : List ℕ) × (w ≡ x ++ e ∷ (y ++ f ∷ z)) × (end e ≡ end f)

  none_apart : AreApart []
  none_apart i j d less within = absurd (omega arith)

  repeated : (w : List ℕ) → EntersTwice w ⊎ AreApart w
  repeated [] = inr none_apart
  repeated (e ∷ w) =
      ⊎_elim
      (λ (later : Enters (end e) w). inl ([], e, later.0, later.1, later.2, ap (λ (v : List ℕ). e ∷ v) later.3, later.4))
      (λ (none : All (λ f. end e ≢ end f) w).
      ⊎_elim
      (λ (h : EntersTwice w). inl (e ∷ h.0, h.1, h.2, h.3, h.4, ap (λ (v : List ℕ). e ∷ v) h.5, h.6))
      (λ (apart : AreApart w). inr (AllPairs-cons (λ a b. end a ≢ end b) e w none apart))
      (repeated w))
      (find (end e) w)

  -- A walk as a shorter one between the same nodes and a closed one, which have its sums together.
  pub record IsCut (a b : ℕ) (w : List ℕ) : Type 0 where
    pub rest : List ℕ
    pub leads : Leads links a rest b
    pub some : 1 ≤ length rest
    pub ring : List ℕ
    pub node : ℕ
    pub closed : Leads links node ring node
    pub round : 1 ≤ length ring
    pub lengths : length rest + length ring ≡ length w
    pub delays : delay w ≡ delay rest +ℤ delay ring
    pub turns : cycles w ≡ cycles rest +ℤ cycles ring

  sums : (f : Link → ℤ) (x : List ℕ) (e : ℕ) (y : List ℕ) (g : ℕ) (z : List ℕ) →
      total f (links_at links (x ++ e ∷ (y ++ g ∷ z))) ≡ total f (links_at links (x ++ e ∷ z)) +ℤ total f (links_at links (y ++ g ∷ []))
  sums f x e y g z =
      let a = sum-append f x (e ∷ (y ++ g ∷ z)) in
      let b = sum-cons f e (y ++ g ∷ z) in
      let c = sum-append f y (g ∷ z) in
      let d = sum-cons f g z in
      let h = sum-append f x (e ∷ z) in
      let i = sum-cons f e z in
      let j = sum-append f y (g ∷ []) in
      let k : total f (links_at links (g ∷ [])) ≡ f (link_at links g) +ℤ pos 0 = refl in
      omega (arith, ints)

  cut_at : (a b : ℕ) (x : List ℕ) (e : ℕ) (y : List ℕ) (g : ℕ) (z : List ℕ) → end e ≡ end g → Leads links a (x ++ e ∷ (y ++ g ∷ z)) b → IsCut a b (x ++ e ∷ (y ++ g ∷ z))
  cut_at a b x e y g z same h =
      let first = leads-parts a x (e ∷ (y ++ g ∷ z)) b h in
      let second = leads-parts (end e) y (g ∷ z) b first.2.2 in
      record {
        rest = x ++ e ∷ z;
        leads = LeadsBy-append (λ (k : Link). k.from) (λ (k : Link). k.to) no_link links a x first.0 (e ∷ z) b first.1 (first.2.0, first.2.1, subst (λ (n : ℕ). Leads links n z b) (sym same) second.2.2);
        some = omega (arith, length-append x (e ∷ z));
        ring = y ++ g ∷ [];
        node = end e;
        closed = LeadsBy-append (λ (k : Link). k.from) (λ (k : Link). k.to) no_link links (end e) y second.0 (g ∷ []) (end e) second.1 (second.2.0, second.2.1, sym same);
        round = omega (arith, length-append y (g ∷ []));
        lengths = omega (arith, length-append x (e ∷ z), length-append y (g ∷ []), length-append x (e ∷ (y ++ g ∷ z)), length-append y (g ∷ z));
        delays = sums (λ (k : Link). k.delay) x e y g z;
        turns = sums (λ (k : Link). pos k.cycles) x e y g z;
      }

  -- A walk is cut so, or enters no node twice.
  pub cut : (a b : ℕ) (w : List ℕ) → Leads links a w b → IsCut a b w ⊎ AreApart w
  cut a b w h =
      ⊎_elim
      (λ (t : EntersTwice w).
      inl (subst (IsCut a b) (sym t.5) (cut_at a b t.0 t.1 t.2 t.3 t.4 t.6 (subst (λ (v : List ℕ). Leads links a v b) t.5 h))))
      (λ (apart : AreApart w). inr apart)
      (repeated w)

  -- Such a walk has at most a link for each node.
  pub few : (nodes a b : ℕ) (w : List ℕ) → All (IsOrdinaryLink nodes) links → Leads links a w b → AreApart w → length w ≤ nodes
  few nodes a b w each h once = let most = few_distinct nodes (map end w) distinct below in omega (arith, length-map w end)
    where
      exist : All (λ e. e < length links) w
      exist = exist-leads (λ (k : Link). k.from) (λ (k : Link). k.to) no_link links a w b h

      at : (k d : ℕ) → k < length w → get_or (map end w) k d ≡ end (get_or w k 0)
      at k d inside = get_or-map end w k 0 d inside

      distinct : AllPairs (λ x y. x ≢ y) (map end w)
      distinct i j d less within =
          let inside : j < length w = omega (arith, length-map w end) in
          λ q. once i j 0 less inside (sym (at i d (omega arith)) ∙ q ∙ at j d inside)

      below : All (λ x. x < nodes) (map end w)
      below k d within =
          let inside : k < length w = omega (arith, length-map w end) in
          let low = (each (get_or w k 0) no_link (exist k 0 inside)).to in
          omega (arith, at k d inside)
