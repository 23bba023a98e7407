-- The least cycle time that no chain of ordinary links forbids: the greatest ratio of delay to cycles of a closed walk.
use Rattle.std.proofs.Common.{◌≡◌, ℕ, ◌*◌, ◌<◌, ℤ, pos, negsuc, ◌+ℤ◌, ◌*ℤ◌, ◌≤ℤ◌, ◌<ℤ◌, List, [], ◌∷◌, length, sym, ap, subst, ◌∙◌, ◌⊎◌, inl, inr, arith}
use Rattle.std.specs.List.{All}
use Rattle.std.proofs.lemmas.Int.{ints, by_lt_z}
use Rattle.std.proofs.lemmas.List.Elements.{All-nil, All-cons, All-head, All-tail}
use Rattle.std.proofs.Math.IntN.{*ℤ_comm}
use Rattle.mintc_fraction.specs.Ratio.{Ratio, over}
use Rattle.mintc_fraction.proofs.SharedProducts.{times-assoc}
use Rattle.mintc_fraction_laws.specs.Lowest.{IsReducedTo}
use Rattle.mintc_fraction_laws.proofs.SharedReducing.{fractions_reduce_lem}
use Rattle.mintc_timing.specs.declared.link.Link.{Link}
use Rattle.mintc_timing.specs.Links.{link_at, IsStuck, IsTight, cycles_of, delay_of}
use Rattle.mintc_timing.proofs.SharedProducts.{add-times, swap-times, times-mono, times-mono_positive, times-cancel_positive}
use Rattle.mintc_constraints.specs.Ordinary.{IsOrdinary, constraints_of}
use Rattle.mintc_ratio.specs.Chains.{NamesChain, links_at}
use Rattle.mintc_ratio.specs.Searched.{IsCycle, IsOfNodes}
use Rattle.mintc_ratio.specs.Tested.{NoneForbids}
use Rattle.mintc_ratio.proofs.SharedSumsLaws.{few_links, small-named, ordinary-at}
use Rattle.mintc_ratio_laws.proofs.Best.{Decided, both, HasBest, IsShort, best}
use Rattle.mintc_ratio_laws.proofs.Walks.{cycles, cycles_low, delay}
use Rattle.mintc_ratio_laws.proofs.SimpleLaws.{IsRound, IsShared, IsSimple, round-decided, round_of, round_of_chain, round_of_named, simple}

same-decided : (x y : ℤ) → Decided (x ≡ y)
same-decided x y =
    by_lt_z x y
    (λ less. inr (λ e. omega (arith, ints, less, e)))
    (λ more. by_lt_z y x (λ above. inr (λ e. omega (arith, ints, above, e))) (λ below. inl (omega (arith, ints))))

below-decided : (x y : ℤ) → Decided (x <ℤ y)
below-decided x y = by_lt_z x y (λ less. inl less) (λ more. inr (λ h. omega (arith, ints, more, h)))

at_most-decided : (x y : ℤ) → Decided (x ≤ℤ y)
at_most-decided x y = by_lt_z y x (λ less. inr (λ h. omega (arith, ints, less, h))) (λ more. inl more)

-- Ratios, compared by cross products: a delay over cycles is at most a second one, and that at most a third.
in_order : (d c e f g h : ℤ) → pos 1 ≤ℤ c → pos 1 ≤ℤ f → pos 1 ≤ℤ h → (d *ℤ f) ≤ℤ (c *ℤ e) → (e *ℤ h) ≤ℤ (f *ℤ g) → (d *ℤ h) ≤ℤ (c *ℤ g)
in_order d c e f g h p q r first second =
    let one = times-mono_positive (d *ℤ f) (c *ℤ e) h first r in
    let two = times-mono_positive (e *ℤ h) (f *ℤ g) c second p in
    let a : (d *ℤ f) *ℤ h ≡ (d *ℤ h) *ℤ f = swap-times d f h in
    let b : (c *ℤ e) *ℤ h ≡ (e *ℤ h) *ℤ c = times-assoc c e h ∙ *ℤ_comm c (e *ℤ h) in
    let k : (f *ℤ g) *ℤ c ≡ (c *ℤ g) *ℤ f = ap (λ (z : ℤ). z *ℤ c) (*ℤ_comm f g) ∙ swap-times g f c ∙ ap (λ (z : ℤ). z *ℤ f) (*ℤ_comm g c) in
    times-cancel_positive (d *ℤ h) (c *ℤ g) f q (omega (arith, ints))

-- a numerator whose denominator is no greater than that of an equal fraction that isn't negative
not_negative : (num den d c : ℤ) → pos 1 ≤ℤ den → pos 1 ≤ℤ c → pos 0 ≤ℤ d → num *ℤ c ≡ d *ℤ den → pos 0 ≤ℤ num
not_negative num den d c p q low same =
    let above = times-mono_positive (pos 0) d den low p in
    let product : (pos 0 *ℤ c) ≤ℤ (num *ℤ c) = omega (arith, ints, above, same) in
    times-cancel_positive (pos 0) num c q product

no_greater : (num den d c : ℤ) → pos 1 ≤ℤ c → pos 0 ≤ℤ d → den ≤ℤ c → num *ℤ c ≡ d *ℤ den → num ≤ℤ d
no_greater num den (pos d) c q low less same =
    let more = times-mono den c d less in
    let first = *ℤ_comm (pos d) den in
    let second = *ℤ_comm (pos d) c in
    times-cancel_positive num (pos d) c q (omega (arith, ints, more, same, first, second))
no_greater num den (negsuc d) c q low less same = absurd (omega (arith, ints))

module _ (nodes : ℕ) (links : List Link) (all : IsOrdinary (constraints_of nodes links)) where
  abbrev pub Round : List ℕ → Type 0
  Round w = IsRound links w

  abbrev delays : List ℕ → ℤ
  delays w = delay links w

  abbrev turns : List ℕ → ℤ
  turns w = cycles links w

  low_turns : (w : List ℕ) → pos 0 ≤ℤ turns w
  low_turns w = cycles_low (links_at links w)

  abbrev pub Short : List ℕ → Type 0
  Short w = IsShort (length links) nodes w

  short_named : (w : List ℕ) → NamesChain links w → Short w
  short_named w named = (few_links nodes links all w named, named.exist)

  -- A link takes off one cycle at most.
  few_turns : (w : List ℕ) → All (λ e. e < length links) w → turns w ≤ℤ pos (length w)
  few_turns [] h = omega (arith, ints)
  few_turns (e ∷ w) h =
      let one = (ordinary-at nodes links all e (All-head (λ e. e < length links) e w h)).cycles in
      let rest = few_turns w (All-tail (λ e. e < length links) e w h) in
      omega (arith, ints)

  -- ---- a closed walk that has no cycle and takes time

  abbrev pub Stuck : List ℕ → Type 0
  Stuck w = (turns w ≡ pos 0) × (pos 0 <ℤ delays w)

  stuck_shared : IsShared links Stuck
  stuck_shared w x y first second d c (none, more) =
      let a = low_turns x in
      let b = low_turns y in
      by_lt_z (pos 0) (delays x)
      (λ some. inl (omega (arith, ints), some))
      (λ less. inr (omega (arith, ints), omega (arith, ints)))

  pub stuck-decided : (w : List ℕ) → Decided (Round w × Stuck w)
  stuck-decided w = both (round-decided links w) (both (same-decided (turns w) (pos 0)) (below-decided (pos 0) (delays w)))

  abbrev pub HasStuck : Type 0
  HasStuck = (chain : List ℕ) × NamesChain links chain × IsStuck (links_at links chain)

  pub stuck_named : (w : List ℕ) → Round w → Stuck w → HasStuck
  stuck_named w h p = let s = simple links Stuck stuck_shared w h p in (s.0, s.1, record { turns = s.2.0; stuck = s.2.1 })

  -- where no short one does so
  module _ (none : (w : List ℕ) → Short w → Round w × Stuck w → ⊥) where
    no_stuck : (w : List ℕ) → Round w → Stuck w → ⊥
    no_stuck w h p = let s = stuck_named w h p in none s.0 (short_named s.0 s.1) (round_of_named links s.0 s.1, (s.2.turns, s.2.stuck))

    -- ---- the greatest ratio

    abbrev pub Turning : List ℕ → Type 0
    Turning w = Round w × (pos 1 ≤ℤ turns w)

    pub turning-decided : (w : List ℕ) → Decided (Turning w)
    turning-decided w = both (round-decided links w) (at_most-decided (pos 1) (turns w))

    abbrev pub AtMost : List ℕ → List ℕ → Type 0
    AtMost v w = (delays v *ℤ turns w) ≤ℤ (turns v *ℤ delays w)

    either : (v w : List ℕ) → AtMost v w ⊎ AtMost w v
    either v w =
        let a = *ℤ_comm (turns v) (delays w) in
        let b = *ℤ_comm (turns w) (delays v) in
        by_lt_z (delays v *ℤ turns w) (turns v *ℤ delays w)
        (λ less. inl (omega (arith, ints)))
        (λ more. inr (omega (arith, ints)))

    through : (u v w : List ℕ) → Turning u → Turning v → Turning w → AtMost u v → AtMost v w → AtMost u w
    through u v w p q r first second = in_order (delays u) (turns u) (delays v) (turns v) (delays w) (turns w) p.1 q.1 r.1 first second

    pub steepest : HasBest Turning AtMost Short
    steepest = best Turning turning-decided AtMost either through (length links) nodes

    -- the walk from node 0 to node 1 and back
    abbrev pub rest : List ℕ
    rest = all.forth.number ∷ all.back.number ∷ []

    rest_round : Round rest
    rest_round = round_of links 0 rest (omega arith) (all.forth.exists, all.forth.from, (all.back.exists, all.back.from ∙ sym all.forth.to, all.back.to))

    rest_delays : delays rest ≡ pos 0
    rest_delays = omega (arith, ints, all.forth.delay, all.back.delay)

    rest_turns : turns rest ≡ pos 1
    rest_turns =
        let first : pos (link_at links all.forth.number).cycles ≡ pos 0 = ap pos all.forth.cycles in
        let second : pos (link_at links all.back.number).cycles ≡ pos 1 = ap pos all.back.cycles in
        omega (arith, ints)

    pub rest_short : Short rest
    rest_short = (
      omega (arith, all.nodes),
      All-cons (λ e. e < length links) all.forth.number (all.back.number ∷ []) all.forth.exists
          (All-cons (λ e. e < length links) all.back.number [] all.back.exists (All-nil (λ e. e < length links))),
    )

    pub rest_turning : Turning rest
    rest_turning = (rest_round, omega (arith, ints, rest_turns))

    module _ (top : List ℕ) (turning : Turning top) (bound : (v : List ℕ) → Short v → Turning v → AtMost v top) where
      -- No closed walk, however long, has a greater ratio.
      abbrev Above : List ℕ → Type 0
      Above w = (turns w *ℤ delays top) <ℤ (delays w *ℤ turns top)

      delays_times : (w x y : List ℕ) → delays w ≡ delays x +ℤ delays y → delays w *ℤ turns top ≡ delays x *ℤ turns top +ℤ delays y *ℤ turns top
      delays_times w x y d = ap (λ (z : ℤ). z *ℤ turns top) d ∙ add-times (delays x) (delays y) (turns top)

      turns_times : (w x y : List ℕ) → turns w ≡ turns x +ℤ turns y → turns w *ℤ delays top ≡ turns x *ℤ delays top +ℤ turns y *ℤ delays top
      turns_times w x y c = ap (λ (z : ℤ). z *ℤ delays top) c ∙ add-times (turns x) (turns y) (delays top)

      above_shared : IsShared links Above
      above_shared w x y first second d c more =
          let a = delays_times w x y d in
          let b = turns_times w x y c in
          by_lt_z (turns x *ℤ delays top) (delays x *ℤ turns top) (λ over. inl over) (λ under. inr (omega (arith, ints)))

      none_above : (v : List ℕ) → NamesChain links v → Above v → ⊥
      none_above v named more =
          let h = round_of_named links v named in
          by_lt_z (pos 0) (turns v)
          (λ some. let most = bound v (short_named v named) (h, omega (arith, ints)) in omega (arith, ints, most, more))
          (λ nothing.
          let low = low_turns v in
          let zero_turns : turns v ≡ pos 0 = omega (arith, ints) in
          let product : turns v *ℤ delays top ≡ pos 0 *ℤ delays top = ap (λ (z : ℤ). z *ℤ delays top) zero_turns in
          by_lt_z (pos 0) (delays v)
          (λ takes. no_stuck v h (zero_turns, takes))
          (λ less. let product' = times-mono_positive (delays v) (pos 0) (turns top) less turning.1 in omega (arith, ints, product, product', more)))

      no_more : (w : List ℕ) → Round w → AtMost w top
      no_more w h =
          by_lt_z (turns w *ℤ delays top) (delays w *ℤ turns top)
          (λ more. let s = simple links Above above_shared w h more in absurd (none_above s.0 s.1 s.2))
          (λ less. less)

      -- A chain that enters no node twice has the same.
      abbrev pub Tight : List ℕ → Type 0
      Tight w = (delays w *ℤ turns top ≡ turns w *ℤ delays top) × (pos 1 ≤ℤ turns w)

      tight_shared : IsShared links Tight
      tight_shared w x y first second d c (same, some) =
          let a = delays_times w x y d in
          let b = turns_times w x y c in
          let p = no_more x first in
          let q = no_more y second in
          let low = low_turns x in
          by_lt_z (pos 0) (turns x)
          (λ positive. inl (omega (arith, ints), omega (arith, ints)))
          (λ nothing. inr (omega (arith, ints), omega (arith, ints)))

      pub tight_named : IsSimple links Tight
      tight_named = simple links Tight tight_shared top turning.0 (*ℤ_comm (delays top) (turns top), turning.1)

      -- ---- that chain's ratio in lowest terms

      module _ (chain : List ℕ) (named : NamesChain links chain) (tight : Tight chain) where
        abbrev d : ℤ
        d = delays chain

        abbrev c : ℤ
        c = turns chain

        no_steeper : (w : List ℕ) → Round w → (delays w *ℤ c) ≤ℤ (turns w *ℤ d)
        no_steeper w h =
            let grown = times-mono_positive (delays w *ℤ turns top) (turns w *ℤ delays top) c (no_more w h) tight.1 in
            let left : (delays w *ℤ turns top) *ℤ c ≡ (delays w *ℤ c) *ℤ turns top = swap-times (delays w) (turns top) c in
            let right : (turns w *ℤ delays top) *ℤ c ≡ (turns w *ℤ d) *ℤ turns top =
            times-assoc (turns w) (delays top) c ∙ ap (λ (z : ℤ). turns w *ℤ z) (*ℤ_comm (delays top) c ∙ sym tight.0) ∙ sym (times-assoc (turns w) d (turns top)) in
            times-cancel_positive (delays w *ℤ c) (turns w *ℤ d) (turns top) turning.1 (omega (arith, ints))

        low : pos 0 ≤ℤ d
        low =
            let most = no_steeper rest rest_round in
            let a = ap (λ (z : ℤ). z *ℤ c) rest_delays in
            let b = ap (λ (z : ℤ). z *ℤ d) rest_turns in
            omega (arith, ints, most, a, b)

        abbrev lowest : (lowest : Ratio) × IsReducedTo (over d c) lowest
        lowest = fractions_reduce_lem (over d c) tight.1

        abbrev pub at : Ratio
        at = lowest.0

        is_lowest : IsReducedTo (over d c) at
        is_lowest = lowest.1

        same : at.num *ℤ c ≡ d *ℤ at.den
        same = is_lowest.equal

        most_delays : d ≤ℤ pos (nodes * 2000000000)
        most_delays = small-named nodes links all chain named

        most_turns : c ≤ℤ pos nodes
        most_turns =
            let few = few_links nodes links all chain named in
            let each = few_turns chain named.exist in
            omega (arith, ints, few, each)

        most_num : at.num ≤ℤ pos (nodes * 2000000000)
        most_num = let less = no_greater at.num at.den d c tight.1 low is_lowest.less same in omega (arith, ints, less, most_delays)

        most_den : at.den ≤ℤ pos nodes
        most_den = omega (arith, ints, is_lowest.less, most_turns)

        pub of_nodes : IsOfNodes nodes at
        of_nodes = (most_num, most_den)

        pub is_cycle : IsCycle at
        is_cycle = record {
          fraction = is_lowest.positive;
          lowest = is_lowest.reduced;
          low = not_negative at.num at.den d c is_lowest.positive tight.1 low same;
          num = omega (arith, ints, most_num, all.nodes.1);
          den = omega (arith, ints, most_den, all.nodes.1);
        }

        pub is_tight : IsTight (links_at links chain) at.num at.den
        is_tight = record { turns = tight.1; tight = sym same ∙ *ℤ_comm at.num c }

        round_fits : (w : List ℕ) → Round w → (delays w *ℤ at.den) ≤ℤ (turns w *ℤ at.num)
        round_fits w h =
            let grown = times-mono_positive (delays w *ℤ c) (turns w *ℤ d) at.den (no_steeper w h) is_lowest.positive in
            let left : (delays w *ℤ c) *ℤ at.den ≡ (delays w *ℤ at.den) *ℤ c = swap-times (delays w) c at.den in
            let right : (turns w *ℤ d) *ℤ at.den ≡ (turns w *ℤ at.num) *ℤ c =
            times-assoc (turns w) d at.den ∙ ap (λ (z : ℤ). turns w *ℤ z) (sym same) ∙ sym (times-assoc (turns w) at.num c) in
            times-cancel_positive (delays w *ℤ at.den) (turns w *ℤ at.num) c tight.1 (omega (arith, ints))

        pub none_forbids : NoneForbids links at
        none_forbids ks is forbids =
            let w = round_of_chain links ks is in
            let fits = round_fits w.0 w.1 in
            let over = subst (λ (x : List Link). (cycles_of x *ℤ at.num) <ℤ (delay_of x *ℤ at.den)) (sym w.2) forbids in
            omega (arith, ints, fits, over)
