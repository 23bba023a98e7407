-- Greatest walks at a cycle time that no chain forbids: of the walks with no more links than there are nodes one asks for
-- the most, and none that is longer asks for more.
use Rattle.std.proofs.Common.{◌≡◌, ℕ, zero, suc, ◌<◌, ◌≤◌, ℤ, pos, ◌+ℤ◌, ◌-ℤ◌, ◌*ℤ◌, ◌≤ℤ◌, List, [], ◌∷◌, ◌++◌, length, get_or, map, refl, sym, ap, subst, ◌∙◌, ◌⊎◌, inl, inr, ⊎_elim, arith}
use Rattle.std.specs.List.{All, range_with_len}
use Rattle.std.proofs.lemmas.Int.{ints, by_lt_z}
use Rattle.std.proofs.lemmas.List.{get_or_default}
use Rattle.std.proofs.lemmas.List.FromFn.{length-map-range_with_len, get_or-map-range_with_len}
use Rattle.mintc_fraction.specs.Ratio.{Ratio}
use Rattle.mintc_timing.specs.declared.link.Link.{Link}
use Rattle.mintc_timing.specs.Links.{no_link, link_at, IsMet}
use Rattle.mintc_timing.proofs.SharedProducts.{add-times}
use Rattle.mintc_graph_walks.specs.Walks.{value_at}
use Rattle.mintc_graph.proofs.SharedRingLaws.{LeadsBy-append, LeadsBy-push, exist-leads}
use Rattle.mintc_constraints.specs.Ordinary.{Constraints, IsOrdinary, Leads}
use Rattle.mintc_constraints.proofs.SharedWalkLaws.{walked}
use Rattle.mintc_ratio.specs.Chains.{links_at}
use Rattle.mintc_ratio.specs.From.{AreGreatestFrom}
use Rattle.mintc_ratio.specs.Greatest.{AreGreatest, asked_by}
use Rattle.mintc_ratio.specs.Tested.{NoneForbids}
use Rattle.mintc_ratio.proofs.SharedFromLaws.{asked-on}
use Rattle.mintc_ratio_laws.specs.Existence.{GreatestWalksExist}
use Rattle.mintc_ratio_laws.proofs.Best.{HasBest, IsShort, best}
use Rattle.mintc_ratio_laws.proofs.Walks.{AreApart, IsCut, cut, cycles, delay, few}
use Rattle.mintc_ratio_laws.proofs.SimpleLaws.{chain_of_round, leads-decided, round_of}

module _ (list : Constraints) (at : Ratio) (all : IsOrdinary list) (free : NoneForbids list.links at) where
  abbrev links : List Link
  links = list.links

  -- what a walk asks for
  abbrev asked : List ℕ → ℤ
  asked w = asked_by at (links_at links w)

  asked-none : asked [] ≡ pos 0
  asked-none = omega (arith, ints)

  parted : (w x y : List ℕ) → delay links w ≡ delay links x +ℤ delay links y → cycles links w ≡ cycles links x +ℤ cycles links y → asked w ≡ asked x +ℤ asked y
  parted w x y d c =
      let first : delay links w *ℤ at.den ≡ delay links x *ℤ at.den +ℤ delay links y *ℤ at.den = ap (λ (z : ℤ). z *ℤ at.den) d ∙ add-times (delay links x) (delay links y) at.den in
      let second : cycles links w *ℤ at.num ≡ cycles links x *ℤ at.num +ℤ cycles links y *ℤ at.num = ap (λ (z : ℤ). z *ℤ at.num) c ∙ add-times (cycles links x) (cycles links y) at.num in
      omega (arith, ints)

  -- A closed walk asks for nothing.
  round_asks : (a : ℕ) (w : List ℕ) → 1 ≤ length w → Leads links a w a → asked w ≤ℤ pos 0
  round_asks a w some h =
      by_lt_z (pos 0) (asked w)
      (λ more. absurd (free (links_at links w) (chain_of_round links w (round_of links a w some h)) (omega (arith, ints))))
      (λ less. less)

  closed_asks : (a : ℕ) (w : List ℕ) → Leads links a w a → asked w ≤ℤ pos 0
  closed_asks a [] h = let none = asked-none in omega (arith, ints)
  closed_asks a (e ∷ w) h = round_asks a (e ∷ w) (omega arith) h

  -- A walk with no more links than there are nodes asks for as much.
  abbrev HasShort : ℕ → ℕ → List ℕ → Type 0
  HasShort a b w = (v : List ℕ) × Leads links a v b × (length v ≤ list.nodes) × (asked w ≤ℤ asked v)

  shorter : (turns : ℕ) (a b : ℕ) (w : List ℕ) → length w ≤ turns → Leads links a w b → HasShort a b w
  shorter zero a b w h leads = (w, leads, omega arith, omega (arith, ints))
  shorter (suc turns) a b w h leads =
      ⊎_elim
      (λ (c : IsCut links a b w).
      let rest = shorter turns a b c.rest (omega (arith, c.lengths, c.round)) c.leads in
      let sum = parted w c.rest c.ring c.delays c.turns in
      let none = round_asks c.node c.ring c.round c.closed in
      (rest.0, rest.1, rest.2, omega (arith, ints, rest.3)))
      (λ (once : AreApart links w). (w, leads, few links list.nodes a b w all.each leads once, omega (arith, ints)))
      (cut links a b w leads)

  short_of : (a b : ℕ) (w : List ℕ) → Leads links a w b → HasShort a b w
  short_of a b w leads = shorter (length w) a b w (omega arith) leads

  module _ (from : ℕ) (inside : from < list.nodes) (reach : (node : ℕ) → node < list.nodes → (walk : List ℕ) × Leads links from walk node) where
    abbrev Reaches : ℕ → List ℕ → Type 0
    Reaches node w = Leads links from w node

    abbrev AsksLess : List ℕ → List ℕ → Type 0
    AsksLess v w = asked v ≤ℤ asked w

    either : (v w : List ℕ) → AsksLess v w ⊎ AsksLess w v
    either v w = by_lt_z (asked v) (asked w) (λ less. inl (omega (arith, ints))) (λ more. inr more)

    abbrev Found : ℕ → Type 0
    Found node = HasBest (Reaches node) AsksLess (IsShort (length links) list.nodes)

    pub found : (node : ℕ) → Found node
    found node = best (Reaches node) (λ w. leads-decided links from w node) AsksLess either (λ u v w p q r g h. omega (arith, ints)) (length links) list.nodes

    -- what the best of the short walks asks for, and 0 where there is none
    abbrev most : (node : ℕ) → Found node → ℤ
    most node (inl none) = pos 0
    most node (inr (w, reaches, bound)) = asked w

    -- It is what some walk asks for, and none asks for more.
    abbrev IsMost : ℕ → ℤ → Type 0
    IsMost node x = ((walk : List ℕ) × Leads links from walk node × (asked walk ≡ x)) × ((walk : List ℕ) → Leads links from walk node → asked walk ≤ℤ x)

    short : (node : ℕ) (w : List ℕ) → Leads links from w node → length w ≤ list.nodes → IsShort (length links) list.nodes w
    short node w leads less = (less, exist-leads (λ (k : Link). k.from) (λ (k : Link). k.to) no_link links from w node leads)

    is_most : (node : ℕ) → node < list.nodes → (f : Found node) → IsMost node (most node f)
    is_most node h (inl none) =
        let some = reach node h in
        let less = short_of from node some.0 some.1 in
        absurd (none less.0 (short node less.0 less.1 less.2) less.1)
    is_most node h (inr (w, reaches, bound)) = (
      (w, reaches, refl),
      (λ walk leads.
          let less = short_of from node walk leads in
          let top = bound less.0 (short node less.0 less.1 less.2) less.1 in
          omega (arith, ints, less.3)),
    )

    abbrev value : ℕ → ℤ
    value node = most node (found node)

    abbrev pub values : List ℤ
    values = map value (range_with_len 0 list.nodes)

    value_is : (node : ℕ) → node < list.nodes → value_at values node ≡ value node
    value_is node h = get_or-map-range_with_len value 0 list.nodes node node (pos 0) h (omega arith)

    pub attained : (node : ℕ) → node < list.nodes → (walk : List ℕ) × Leads links from walk node × (asked walk ≡ value_at values node)
    attained node h =
        let best = (is_most node h (found node)).0 in
        (best.0, best.1, best.2 ∙ sym (value_is node h))

    pub bound_by : (node : ℕ) → node < list.nodes → (walk : List ℕ) → Leads links from walk node → asked walk ≤ℤ value_at values node
    bound_by node h walk leads = subst (λ (x : ℤ). asked walk ≤ℤ x) (sym (value_is node h)) ((is_most node h (found node)).1 walk leads)

    pub count : length values ≡ list.nodes
    count = length-map-range_with_len value 0 list.nodes

    pub here : value_at values from ≡ pos 0
    here =
        let round = attained from inside in
        let low = bound_by from inside [] refl in
        let high = closed_asks from round.0 round.1 in
        let none = asked-none in
        omega (arith, ints, round.2)

    pub met : All (IsMet at.num at.den (value_at values)) links
    met e d h =
        let is : get_or links e d ≡ link_at links e = get_or_default links e d no_link h in
        let k = link_at links e in
        let ends = all.each e no_link h in
        let walk = attained k.from ends.from in
        let longer = LeadsBy-push (λ (k : Link). k.from) (λ (k : Link). k.to) no_link links from walk.0 e k.to h walk.1 refl in
        let low = bound_by k.to ends.to (walk.0 ++ e ∷ []) longer in
        let sum = asked-on at links walk.0 (e ∷ []) in
        let one = asked-one e in
        let holds : IsMet at.num at.den (value_at values) k = omega (arith, ints, walk.2) in
        rw is holds
      where
        asked-one : (e : ℕ) → asked (e ∷ []) ≡ (link_at links e).delay *ℤ at.den -ℤ pos (link_at links e).cycles *ℤ at.num
        asked-one e =
            let d : delay links (e ∷ []) ≡ (link_at links e).delay = omega (arith, ints) in
            let c : cycles links (e ∷ []) ≡ pos (link_at links e).cycles = omega (arith, ints) in
            let x = ap (λ (z : ℤ). z *ℤ at.den) d in
            let y = ap (λ (z : ℤ). z *ℤ at.num) c in
            omega (arith, ints)

    pub greatest_from : AreGreatestFrom list at from values
    greatest_from = record { count = count; here = here; asked = attained; met = met }

  -- So it is from node 0, and no solution has less anywhere.
  module _ (some : 0 < list.nodes) where
    abbrev pub origin_values : List ℤ
    origin_values = values 0 some all.reached

    pub greatest : AreGreatest list at origin_values
    greatest = record {
      count = count 0 some all.reached;
      origin = here 0 some all.reached;
      greatest = λ node h. record { attained = attained 0 some all.reached node h; bound = bound_by 0 some all.reached node h };
      met = met 0 some all.reached;
      least = λ value zero_is meets node h.
          let walk = attained 0 some all.reached node h in
          let rises = walked at.num at.den value links meets 0 walk.0 node walk.1 in
          omega (arith, ints, walk.2, zero_is);
    }

pub greatest_walks_exist_lem : GreatestWalksExist
greatest_walks_exist_lem list at from all free inside back =
    let reach : (node : ℕ) → node < list.nodes → (walk : List ℕ) × Leads list.links from walk node = λ node h.
    let rest = all.reached node h in
    (back.0 ++ rest.0, LeadsBy-append (λ (k : Link). k.from) (λ (k : Link). k.to) no_link list.links from back.0 0 rest.0 node back.1 rest.1) in
    (values list at all free from inside reach, greatest_from list at all free from inside reach)
