-- Timings that differ in the delays of pairs alone.
use Rattle.std.proofs.Common.{◌≡◌, ℕ, ◌<◌, ℤ, pos, ◌≤ℤ◌, ◌+ℤ◌, true, List, length, get_or, get_or-set_same, get_or-set_other, arith, refl, ap, ◌∙◌, sym, subst, ⊎_elim}
use Rattle.std.proofs.Math.ListN.{length-set}
use Rattle.std.proofs.lemmas.Int.{ints}
use Rattle.std.proofs.lemmas.Bool.{cases_eq}
use Rattle.std.proofs.lemmas.List.{get_or_default}
use Rattle.std.proofs.lemmas.List.Folds.{Any-from_list_any, list_any_at}
use Rattle.std.specs.List.{All}
use Rattle.mintc_timing.specs.declared.parts.Pair.{Pair}
use Rattle.mintc_timing.specs.declared.link.Link.{Link}
use Rattle.mintc_timing.specs.Clocking.{feeds_of, is_pair_between}
use Rattle.mintc_timing.specs.Design.{Timing, element_at, pair_at, no_pair}
use Rattle.mintc_timing.specs.Links.{links_of, reach_link, IsMet}
use Rattle.mintc_timing.proofs.SharedProducts.{times-mono_positive}
use Rattle.mintc_timing.specs.Paths.{HasEnds}
use Rattle.mintc_timing.proofs.SharedByKind.{EachKind, All-links, EachKind-from_all}
use Rattle.mintc_slack.specs.Raised.{raised, raised_pair, with_pairs}

-- The lists have pairs of the same elements.
pub record AreAlike (ps qs : List Pair) : Type 0 where
  pub count : length qs ≡ length ps
  pub from : (n : ℕ) → (get_or qs n no_pair).from ≡ (get_or ps n no_pair).from
  pub to : (n : ℕ) → (get_or qs n no_pair).to ≡ (get_or ps n no_pair).to

pub alike-back : (ps qs : List Pair) → AreAlike ps qs → AreAlike qs ps
alike-back ps qs h = record { count = sym h.count; from = λ n. sym (h.from n); to = λ n. sym (h.to n) }

pub alike-both : (all ps qs : List Pair) → AreAlike all ps → AreAlike all qs → AreAlike ps qs
alike-both all ps qs g h = record { count = h.count ∙ sym g.count; from = λ n. h.from n ∙ sym (g.from n); to = λ n. h.to n ∙ sym (g.to n) }

module _ (t : Timing) (ps qs : List Pair) (alike : AreAlike ps qs) where
  fed : (i j : ℕ) → feeds_of (with_pairs t qs) i j ≡ true → feeds_of (with_pairs t ps) i j ≡ true
  fed i j h =
      let some = Any-from_list_any (is_pair_between t.flat i j) qs h in
      let inside : some.0 < length qs = some.2 in
      let at : get_or qs some.0 no_pair ≡ some.1 = get_or_default qs some.0 no_pair some.1 some.2 ∙ some.3 in
      list_any_at (is_pair_between t.flat i j) ps some.0 no_pair (omega arith) (rw (← alike.from some.0, ← alike.to some.0, at) some.4)

  -- What holds of each link with the one pairs, holds of each with the others, where it does at the reaches.
  pub each-alike : (P : Link → Type 0) → EachKind (with_pairs t ps) P →
      ((n : ℕ) → n < length ps → P (reach_link t.flat (get_or ps n no_pair).from (get_or ps n no_pair).to (get_or qs n no_pair).max)) → EachKind (with_pairs t qs) P
  each-alike P each reaches = record {
    start = each.start;
    cycle = each.cycle;
    order = each.order;
    span = each.span;
    width = each.width;
    apart = λ i j g h feeds. each.apart i j g h (fed i j feeds);
    opening = each.opening;
    opened = each.opened;
    reach = λ n h. rw (alike.from n, alike.to n) (reaches n (omega arith));
    setup = each.setup;
    bound = each.bound;
  }

  pub ends-alike : HasEnds (with_pairs t ps) → HasEnds (with_pairs t qs)
  ends-alike ends = λ n d h. rw (get_or_default qs n d no_pair h, alike.from n, alike.to n) (ends n no_pair (omega arith))

  -- What meets each link with greater delays, meets each with less.
  pub holds-less : (num den : ℤ) (f : ℕ → ℤ) → pos 1 ≤ℤ den → ((n : ℕ) → (get_or qs n no_pair).max ≤ℤ (get_or ps n no_pair).max) →
      All (IsMet num den f) (links_of (with_pairs t ps)) → All (IsMet num den f) (links_of (with_pairs t qs))
  holds-less num den f some less all =
      let each = EachKind-from_all (with_pairs t ps) (IsMet num den f) all in
      All-links (with_pairs t qs) (IsMet num den f)
      (each-alike (IsMet num den f) each
      (λ n h.
      let here = each.reach n h in
      let most = less n in
      let grown = times-mono_positive ((element_at t.flat (get_or ps n no_pair).from).dq_max +ℤ (get_or qs n no_pair).max) ((element_at t.flat (get_or ps n no_pair).from).dq_max +ℤ (get_or ps n no_pair).max) den (omega (arith, ints)) some in
      omega (arith, ints)))

-- A pair raised.
module _ (t : Timing) (n : ℕ) (h : n < length t.pairs) where
  pub raised-here : (u : ℤ) → pair_at (raised t n u) n ≡ raised_pair (pair_at t n) u
  raised-here u = get_or-set_same t.pairs n (raised_pair (pair_at t n) u) no_pair h

  -- what holds of it, and of each other pair, holds of all
  pub raised-at : (u : ℤ) (m : ℕ) (P : Pair → Type 0) → (m ≡ n → P (raised_pair (pair_at t m) u)) → ((m ≡ n → ⊥) → P (pair_at t m)) → P (pair_at (raised t n u) m)
  raised-at u m P here others = ⊎_elim
      (λ (e : m ≡ n). subst P (ap (λ (k : ℕ). raised_pair (pair_at t k) u) e ∙ sym (raised-here u) ∙ ap (pair_at (raised t n u)) (sym e)) (here e))
      (λ (e : m ≡ n → ⊥). subst P (sym (get_or-set_other t.pairs n m (raised_pair (pair_at t n) u) no_pair e)) (others e))
      (cases_eq m n)

  pub raised-alike : (u : ℤ) → AreAlike t.pairs (raised t n u).pairs
  raised-alike u = record {
    count = length-set t.pairs n (raised_pair (pair_at t n) u);
    from = λ m. raised-at u m (λ q. q.from ≡ (pair_at t m).from) (λ e. refl) (λ e. refl);
    to = λ m. raised-at u m (λ q. q.to ≡ (pair_at t m).to) (λ e. refl) (λ e. refl);
  }

  -- a delay that is raised by less is no greater
  pub raised-less : (u v : ℤ) → u ≤ℤ v → (m : ℕ) → (pair_at (raised t n u) m).max ≤ℤ (pair_at (raised t n v) m).max
  raised-less u v less m = raised-at u m (λ q. q.max ≤ℤ (pair_at (raised t n v) m).max)
      (λ e. raised-at v m (λ q. ((pair_at t m).max +ℤ u) ≤ℤ q.max) (λ e'. omega (arith, ints)) (λ other. absurd (other e)))
      (λ other. raised-at v m (λ q. (pair_at t m).max ≤ℤ q.max) (λ e. absurd (other e)) (λ e. omega (arith, ints)))

  pub raised-more : (u : ℤ) → pos 0 ≤ℤ u → (m : ℕ) → (pair_at t m).max ≤ℤ (pair_at (raised t n u) m).max
  raised-more u low m = raised-at u m (λ q. (pair_at t m).max ≤ℤ q.max) (λ e. omega (arith, ints)) (λ e. omega (arith, ints))
