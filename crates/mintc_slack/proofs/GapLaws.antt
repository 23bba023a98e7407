-- Links weighed against potentials, and the distances of walks over them.
use Rattle.std.proofs.Common.{◌≡◌, ◌≢◌, ℕ, ◌<◌, ◌+◌, ℤ, pos, ◌+ℤ◌, ◌-ℤ◌, ◌≤ℤ◌, ◌<ℤ◌, List, [], ◌∷◌, ◌++◌, length, get_or, map, arith, refl, ap, ◌∙◌, sym, subst, ⊎_elim, below_more}
use Rattle.std.proofs.lemmas.Int.{ints}
use Rattle.std.proofs.lemmas.Bool.{cases_eq}
use Rattle.std.proofs.lemmas.List.{get_or-map, get_or-set_other, get_or-set_same, get_or_default, length-map}
use Rattle.std.proofs.lemmas.List.Elements.{All-map}
use Rattle.std.proofs.lemmas.List.Sorted.{All-permutation, Contains-permutation, IsPermutation-sym}
use Rattle.std.proofs.Math.ListN.{length-set}
use Rattle.std.specs.Prelude.{slice_set}
use Rattle.std.specs.List.{All, Contains}
use Rattle.std.specs.List.Sorted.{IsPermutation}
use Rattle.mintc_fraction.specs.Ratio.{Ratio}
use Rattle.mintc_timing.specs.declared.link.Link.{Link}
use Rattle.mintc_timing.specs.Design.{Timing}
use Rattle.mintc_timing.specs.Links.{element_node, links_of, no_link, link_at, IsMet, node_count}
use Rattle.mintc_constraints.specs.Ordinary.{Constraints, constraints_of, IsOrdinaryLink}
use Rattle.mintc_constraints.specs.Rooms.{Space}
use Rattle.mintc_ratio.specs.From.{AreGreatestFrom, IsAsked}
use Rattle.mintc_ratio.specs.Greatest.{asked_by, asked_by_link}
use Rattle.mintc_slack.specs.Short.{IsShortCycle}
use Rattle.mintc_ratio.proofs.SharedBroughtLaws.{asked_more}
use Rattle.mintc_ratio.proofs.SharedFromLaws.{asked-on}
use Rattle.mintc_graph.proofs.SharedRingLaws.{LeadsBy-append}
use Rattle.mintc_graph_walks.specs.Bounds.{IsWithin}
use Rattle.mintc_graph_walks.specs.Walks.{value_at}
use Rattle.mintc_slack.specs.declared.reduced_costs.ReducedCost.{ReducedCost}
use Rattle.mintc_slack.specs.declared.nearest.TheConstants.{FAR}
use Rattle.mintc_slack.specs.Gaps.{AreDistances, AreGaps, AreInRange, ArePotentials, AreShorter, AreShortest, IsInside, gap_of}
use Rattle.mintc_slack.specs.WalkedFrom.{AreSettled}
use Rattle.mintc_slack.proofs.SizeLaws.{asked_small}
use Rattle.mintc_slack.proofs.WalkedLaws.{are_from}

abbrev pub made : ℕ → ℤ → ℕ → ReducedCost
made from rest to = record { from = from; rest = rest; to = to }

pub weighed : (f : Link → ReducedCost) (items links : List Link) (i : ℕ) (d : Link) (g : ReducedCost) → items ≡ links → i < length links → g ≡ f (get_or items i d) → g ≡ get_or (map f links) i (f (link_at links i))
weighed f items links i d g same h is =
    is ∙ ap (λ (ks : List Link). f (get_or ks i d)) same ∙ ap f (get_or_default links i d no_link h) ∙ sym (get_or-map f links i no_link (f (link_at links i)) h)

-- one value more of a function
pub written : (f : ℕ → ℤ) (values : List ℤ) (i : ℕ) (z : ℤ) → i < length values → z ≡ f i → ((k : ℕ) → k < i → value_at values k ≡ f k) → (k : ℕ) → k < i + 1 → value_at (slice_set values i z) k ≡ f k
written f values i z h is before =
    below_more (λ k. value_at (slice_set values i z) k ≡ f k) i (λ k less. get_or-set_other values i k z (pos 0) (λ e. omega arith) ∙ before k less) (get_or-set_same values i z (pos 0) h ∙ is)

-- a room of which the values alone change
pub room-kept : (first now new : Space) (values : List ℤ) → now ≡ record first { values = now.values } → new ≡ record now { values = values } → new ≡ record first { values = new.values }
room-kept first now new values before step =
    step ∙ ap (λ (r : Space). record r { values = values }) before ∙ ap (λ (v : List ℤ). record first { values = v }) (sym (ap (λ (r : Space). r.values) step))

pub far_is : FAR ≡ pos 100000000000000000
far_is = refl

-- what links ask for
pub ordinary-small : (at : Ratio) (count : ℕ) (k : Link) → IsShortCycle at → IsOrdinaryLink count k → IsWithin 13000000000000 (asked_by_link at k)
ordinary-small at count k cycle o = let low = o.delay.0 in let high = o.delay.1 in asked_small at k cycle (omega (arith, ints), omega (arith, ints)) o.cycles

module _ (list : Constraints) (at : Ratio) (potentials : List ℤ) (are : ArePotentials list at potentials) where
  -- the gap of each link
  inside-each : All (λ k. IsInside list.nodes (gap_of at potentials k)) list.links
  inside-each e d h =
      let k = get_or list.links e d in
      let o = are.ordinary.each e d h in
      let met = are.met e d h in
      let asked = ordinary-small at list.nodes k are.cycle o in
      let far = far_is in
      let from = are.small k.from o.from in
      let to = are.small k.to o.to in
      record { from = o.from; to = o.to; low = omega (arith, ints); high = omega (arith, ints) }

  module _ (gaps : List ReducedCost) (same : IsPermutation (map (gap_of at potentials) list.links) gaps) where
    pub inside-all : All (IsInside list.nodes) gaps
    inside-all = All-permutation (IsInside list.nodes) (map (gap_of at potentials) list.links) gaps same (All-map (IsInside list.nodes) (gap_of at potentials) list.links inside-each)

    -- each gap is a link's
    link_of : (g : ReducedCost) → Contains gaps g → (e : ℕ) × (e < length list.links) × (gap_of at potentials (link_at list.links e) ≡ g)
    link_of g here =
        let found = Contains-permutation gaps (map (gap_of at potentials) list.links) g (IsPermutation-sym (map (gap_of at potentials) list.links) gaps same) here in
        let count = length-map list.links (gap_of at potentials) in
        let below : found.0 < length list.links = (let b = found.1 in omega arith) in
        (found.0, below, sym (get_or-map (gap_of at potentials) list.links found.0 no_link g below) ∙ found.2)

    -- and each link has its gap
    gap_in : (e : ℕ) → e < length list.links → Contains gaps (gap_of at potentials (link_at list.links e))
    gap_in e below =
        let g = gap_of at potentials (link_at list.links e) in
        let count = length-map list.links (gap_of at potentials) in
        Contains-permutation (map (gap_of at potentials) list.links) gaps g same
        (e, omega arith, get_or-map (gap_of at potentials) list.links e no_link g below)

asked-one : (at : Ratio) (k : Link) → asked_by at (k ∷ []) ≡ asked_by_link at k
asked-one at k = let more = asked_more at k [] in omega (arith, ints)

-- one change of distances after another
pub shorter-on : (hub : ℕ) (gaps : List ReducedCost) (old now new : List ℤ) → AreShorter hub gaps old now → AreShorter hub gaps now new → AreShorter hub gaps old new
shorter-on hub gaps old now new first next = record {
  range = next.range;
  count = next.count ∙ first.count;
  kept = λ list at potentials from are count d. next.kept list at potentials from are (first.count ∙ count) (first.kept list at potentials from are count d);
}

-- A distance that is less, where it is that of a walk.
module _ (old : List ℤ) (v : ℕ) (x : ℤ) (inside : v < length old) (range : AreInRange old) (low : pos 0 ≤ℤ x) (less : x <ℤ value_at old v) where
  there : value_at (slice_set old v x) v ≡ x
  there = get_or-set_same old v x (pos 0) inside

  pub apart : (u : ℕ) → (u ≡ v → ⊥) → value_at (slice_set old v x) u ≡ value_at old u
  apart u e = get_or-set_other old v u x (pos 0) e

  -- what holds of each other node and of this one, holds of all
  pub each-node : (P : ℕ → ℤ → Type 0) → P v x → (u : ℕ) → ((u ≡ v → ⊥) → P u (value_at old u)) → P u (value_at (slice_set old v x) u)
  each-node P here u others = ⊎_elim
      (λ (e : u ≡ v). subst (λ (n : ℕ). P n (value_at (slice_set old v x) n)) (sym e) (subst (P v) (sym there) here))
      (λ (e : u ≡ v → ⊥). subst (P u) (sym (apart u e)) (others e))
      (cases_eq u v)

  set-range : AreInRange (slice_set old v x)
  set-range u h =
      each-node (λ u y. (pos 0 ≤ℤ y) × (y ≤ℤ FAR)) (let most = (range v inside).1 in (low, omega (arith, ints))) u
      (λ e. range u (let count = length-set old v x in omega arith))

  pub set-shorter : (hub : ℕ) (gaps : List ReducedCost) → ((list : Constraints) (at : Ratio) (potentials : List ℤ) (from : ℕ) → AreGaps list at hub potentials gaps → length old ≡ list.nodes →
      AreDistances list at potentials from old → x <ℤ FAR → IsAsked list.links at from v (value_at potentials v -ℤ value_at potentials from -ℤ x)) → AreShorter hub gaps old (slice_set old v x)
  set-shorter hub gaps asked = record {
    range = set-range;
    count = length-set old v x;
    kept = λ list at potentials from are count d. record {
      here = apart from (λ e. let zero = ap (λ (n : ℕ). value_at old n) (sym e) ∙ d.here in omega (arith, ints)) ∙ d.here;
      walked = λ node below.
          each-node (λ u y. y <ℤ FAR → IsAsked list.links at from u (value_at potentials u -ℤ value_at potentials from -ℤ y)) (asked list at potentials from are count d) node
          (λ e. d.walked node below);
    };
  }

-- A distance that a gap shortens is that of a walk by the gap's link.
pub shorter-by : (hub : ℕ) (gaps : List ReducedCost) (g : ReducedCost) (old : List ℤ) (x : ℤ) → IsInside (length old) g → AreInRange old → x ≡ value_at old g.from +ℤ g.rest → x <ℤ value_at old g.to → Contains gaps g →
    AreShorter hub gaps old (slice_set old g.to x)
shorter-by hub gaps g old x inside range is less within =
    set-shorter old g.to x inside.to range (let r = inside.low in let d = range g.from inside.from in omega (arith, ints)) less hub gaps
    (λ list at potentials from are count d near.
    let found = link_of list at potentials are.potentials_are gaps are.permutation g within in
    let e = found.0 in
    let k = link_at list.links e in
    subst (λ (y : ReducedCost). IsInside (length old) y → x ≡ value_at old y.from +ℤ y.rest → IsAsked list.links at from y.to (value_at potentials y.to -ℤ value_at potentials from -ℤ x)) found.2
    (λ inside is.
    let first = d.walked k.from (let f = inside.from in omega arith) (omega (arith, ints)) in
    let sum = asked-on at list.links first.0 (e ∷ []) in
    let one = asked-one at k in
    let start = first.2 in
    (first.0 ++ e ∷ [], LeadsBy-append (λ (k : Link). k.from) (λ (k : Link). k.to) no_link list.links from first.0 k.from (e ∷ []) k.to first.1 (found.1, refl, refl), omega (arith, ints)))
    inside is)

-- A node is at most as far as the hub, from which the walk of its potential leads to it.
module _ (now : List ℤ) (hub v : ℕ) (inside : v < length now) (range : AreInRange now) (some : hub < length now) (more : value_at now hub <ℤ value_at now v) where
  abbrev home : ℤ
  home = value_at now hub

  pub home-same : value_at (slice_set now v home) hub ≡ home
  home-same = apart now v home inside range (range hub some).0 more hub (λ e. let same = ap (λ (n : ℕ). value_at now n) e in omega (arith, ints))

  pub home-next : ((k : ℕ) → k < v → value_at now k ≤ℤ home) → (k : ℕ) → k < v + 1 → value_at (slice_set now v home) k ≤ℤ home
  home-next before k h = each-node now v home inside range (range hub some).0 more (λ u y. y ≤ℤ home) (omega (arith, ints)) k (λ e. before k (omega arith))

  pub home-shorter : (gaps : List ReducedCost) → AreShorter hub gaps now (slice_set now v home)
  home-shorter gaps = set-shorter now v home inside range (range hub some).0 more hub gaps
      (λ list at potentials from are count d near.
      let back = d.walked hub (omega arith) near in
      let forth = are.greatest.asked v (omega arith) in
      let here = are.greatest.here in
      let sum = asked-on at list.links back.0 forth.0 in
      (back.0 ++ forth.0, LeadsBy-append (λ (k : Link). k.from) (λ (k : Link). k.to) no_link list.links from back.0 hub forth.0 v back.1 forth.1, omega (arith, ints)))

-- distances that are the least stand for the values of the greatest walks
module _ (list : Constraints) (at : Ratio) (hub : ℕ) (potentials : List ℤ) (gaps : List ReducedCost) (from : ℕ) (distances values : List ℤ) (are : AreGaps list at hub potentials gaps)
    (count : length distances ≡ list.nodes) (inside : from < list.nodes) (short : AreShortest hub gaps from distances)
    (values_are : (node : ℕ) → node < list.nodes → value_at values node ≡ value_at potentials node -ℤ value_at potentials from -ℤ value_at distances node)
  where
    d : AreDistances list at potentials from distances
    d = short.walked list at potentials are count

    start-zero : value_at values from ≡ pos 0
    start-zero = let v = values_are from inside in let z = d.here in omega (arith, ints)

    all-asked : (node : ℕ) → node < list.nodes → IsAsked list.links at from node (value_at values node)
    all-asked node h = subst (λ (y : ℤ). IsAsked list.links at from node y) (sym (values_are node h)) (d.walked node h (short.near node (omega arith)).1)

    all-met : All (IsMet at.num at.den (value_at values)) list.links
    all-met e default h =
        let same : get_or list.links e default ≡ link_at list.links e = get_or_default list.links e default no_link h in
        let k = link_at list.links e in
        let o = are.potentials_are.ordinary.each e no_link h in
        let found = gap_in list at potentials are.potentials_are gaps are.permutation e h in
        let most = short.least found.0 (gap_of at potentials k) found.1 in
        let here : value_at distances k.to ≤ℤ (value_at distances k.from +ℤ (gap_of at potentials k).rest) =
        subst (λ (g : ReducedCost). value_at distances g.to ≤ℤ (value_at distances g.from +ℤ g.rest)) found.2 most in
        let v_from = values_are k.from o.from in
        let v_to = values_are k.to o.to in
        rw same (omega (arith, ints))

    pub are-greatest : length values ≡ list.nodes → AreGreatestFrom list at from values
    are-greatest long = record { count = long; here = start-zero; asked = all-asked; met = all-met }

-- what walks begin with
pub begun-distances : (list : Constraints) (at : Ratio) (potentials : List ℤ) (from : ℕ) (distances : List ℤ) → length distances ≡ list.nodes → value_at distances from ≡ pos 0 →
    ((node : ℕ) → node < length distances → node ≢ from → value_at distances node ≡ FAR) → AreDistances list at potentials from distances
begun-distances list at potentials from distances count here others = record {
  here = here;
  walked = λ node h near. ⊎_elim
      (λ (e : node ≡ from).
      subst (λ (n : ℕ). IsAsked list.links at from n (value_at potentials n -ℤ value_at potentials from -ℤ value_at distances n)) (sym e)
      (let none : asked_by at [] ≡ pos 0 = omega (arith, ints) in ([], refl, omega (arith, ints))))
      (λ (e : node ≡ from → ⊥). let far = others node (omega arith) e in absurd (omega (arith, ints)))
      (cases_eq node from);
}

pub settled-by : (t : Timing) (list : Constraints) (at : Ratio) (hub : ℕ) (potentials : List ℤ) (gaps : List ReducedCost) (l : ℕ) (distances values : List ℤ) → list ≡ constraints_of (node_count t.flat) (links_of t) →
    AreGaps list at hub potentials gaps → length distances ≡ list.nodes → element_node t.flat l < list.nodes → AreShortest hub gaps (element_node t.flat l) distances → length values ≡ length distances →
    ((node : ℕ) → node < length distances → value_at values node ≡ value_at potentials node -ℤ value_at potentials (element_node t.flat l) -ℤ value_at distances node) → AreSettled t at l values
settled-by t list at hub potentials gaps l distances values links are count inside short long values_are =
    let values_at : (node : ℕ) → node < list.nodes → value_at values node ≡ value_at potentials node -ℤ value_at potentials (element_node t.flat l) -ℤ value_at distances node =
    λ node h. values_are node (omega arith) in
    let nodes = ap (λ (c : Constraints). c.nodes) links in
    let small = are.potentials_are.small in
    let far = far_is in
    record {
      count = long ∙ count ∙ nodes;
      small = λ node h.
          let near = short.near node (omega arith) in
          let to = small node (omega arith) in
          let from = small (element_node t.flat l) inside in
          subst (IsWithin 200000000000000000) (sym (values_at node (omega arith))) (omega (arith, ints), omega (arith, ints));
      from = are_from t list links at l [] values (are-greatest list at hub potentials gaps (element_node t.flat l) distances values are count inside short values_at (long ∙ count));
    }
