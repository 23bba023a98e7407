-- What some delays say and what others say is together what all of these say.
use Rattle.std.proofs.Common.{◌≡◌, ℤ, Bool, true, false, cond, ◌&&◌, ◌||◌, List, [], ◌∷◌, ◌++◌, filter, get_or, All, Option, Some, None, arith, refl, ap, ◌∙◌, sym}
use Rattle.std.proofs.lemmas.Int.{ints, int_min_is, int_max_is}
use Rattle.std.proofs.lemmas.List.Elements.{All-head, All-tail}
use Rattle.std.specs.Int.{int_min, int_max}
use Rattle.std.specs.Option.{option_or}
use Rattle.mintc_flatten_hierarchy.specs.declared.hierarchy.Hierarchy.{Hierarchy}
use Rattle.mintc_flatten_hierarchy.specs.Shape.{CellTable}
use Rattle.mintc_sdf_edges.specs.declared.delays.EdgeDelay.{EdgeDelay}
use Rattle.mintc_sdf_edges.specs.Laws.{HasEdges}
use Rattle.mintc_annotate_resolve.specs.Resolution.{Target, Said, said, said_by, same_target, range_of, widened}
use Rattle.mintc_edges.specs.declared.edge.Edge.{Edge}
use Rattle.mintc_edges.specs.declared.edge.Edge.TheVariants.{Rise, Fall}
use Rattle.mintc_edges.specs.declared.spreads.ByEdge.{ByEdge}
use Rattle.mintc_edges.specs.declared.spreads.Spread.{Spread}
use Rattle.mintc_edges.specs.Edges.{only, any, transition}
use Rattle.mintc_edges.specs.Numbers.{without_edges, merged_range, range_at, wire_range, gate_range, speaks_of, wider}
use Rattle.mintc_edges.specs.Spreads.{all_of, at_or_all, all_said, said_at, begun}
use Rattle.mintc_edges.specs.Told.{HasEnds, HasStarts, HasSpread}

min_turn : (x y : ℤ) → int_min x y ≡ int_min y x
min_turn x y = omega (arith, ints, int_min_is x y, int_min_is y x)

max_turn : (x y : ℤ) → int_max x y ≡ int_max y x
max_turn x y = omega (arith, ints, int_max_is x y, int_max_is y x)

min_group : (x y z : ℤ) → int_min (int_min x y) z ≡ int_min x (int_min y z)
min_group x y z = omega (arith, ints, int_min_is (int_min x y) z, int_min_is x y, int_min_is x (int_min y z), int_min_is y z)

max_group : (x y z : ℤ) → int_max (int_max x y) z ≡ int_max x (int_max y z)
max_group x y z = omega (arith, ints, int_max_is (int_max x y) z, int_max_is x y, int_max_is x (int_max y z), int_max_is y z)

min_same : (x : ℤ) → int_min x x ≡ x
min_same x = omega (arith, ints, int_min_is x x)

max_same : (x : ℤ) → int_max x x ≡ x
max_same x = omega (arith, ints, int_max_is x x)

abbrev pair : ℤ → ℤ → Option (ℤ × ℤ)
pair x y = Some (x, y)

pub wider-turn : (a b : Option (ℤ × ℤ)) → wider a b ≡ wider b a
wider-turn None None = refl
wider-turn None (Some y) = refl
wider-turn (Some x) None = refl
wider-turn (Some x) (Some y) = ap (λ v. pair v (int_max x.1 y.1)) (min_turn x.0 y.0) ∙ ap (pair (int_min y.0 x.0)) (max_turn x.1 y.1)

pub wider-group : (a b c : Option (ℤ × ℤ)) → wider (wider a b) c ≡ wider a (wider b c)
wider-group None b c = refl
wider-group (Some x) None c = refl
wider-group (Some x) (Some y) None = refl
wider-group (Some x) (Some y) (Some z) = ap (λ v. pair v (int_max (int_max x.1 y.1) z.1)) (min_group x.0 y.0 z.0) ∙ ap (pair (int_min x.0 (int_min y.0 z.0))) (max_group x.1 y.1 z.1)

pub wider-same : (a : Option (ℤ × ℤ)) → wider a a ≡ a
wider-same None = refl
wider-same (Some x) = ap (λ v. pair v (int_max x.1 x.1)) (min_same x.0) ∙ ap (pair x.0) (max_same x.1)

-- one more that both say, that the first says, and that the second says
both-more : (d a b : Option (ℤ × ℤ)) → wider (wider d a) (wider d b) ≡ wider d (wider a b)
both-more d a b =
    wider-group d a (wider d b) ∙ ap (wider d) (sym (wider-group a d b) ∙ ap (λ v. wider v b) (wider-turn a d) ∙ wider-group d a b) ∙ sym (wider-group d d (wider a b)) ∙ ap (λ v. wider v (wider a b)) (wider-same d)

second-more : (d a b : Option (ℤ × ℤ)) → wider a (wider d b) ≡ wider d (wider a b)
second-more d a b = sym (wider-group a d b) ∙ ap (λ v. wider v b) (wider-turn a d) ∙ wider-group d a b

-- what two lists say
pub said-append : (ss xs : List Said) (m : Target) → range_of (ss ++ xs) m ≡ wider (range_of ss m) (range_of xs m)
said-append [] xs m = refl
said-append (s ∷ ss) xs m = by (same_target s.target m) (said-append ss xs m)
  where
    by : (b : Bool) → range_of (ss ++ xs) m ≡ wider (range_of ss m) (range_of xs m) →
        cond b (Some (widened s.least s.greatest (range_of (ss ++ xs) m))) (range_of (ss ++ xs) m) ≡ wider (cond b (Some (widened s.least s.greatest (range_of ss m))) (range_of ss m)) (range_of xs m)
    by true e = ap (λ r. wider (pair s.least s.greatest) r) e ∙ sym (wider-group (pair s.least s.greatest) (range_of ss m) (range_of xs m))
    by false e = e

module _ (h : Hierarchy) (cells : CellTable) (m : Target) where
  merged-more : (d : EdgeDelay) (ds : List EdgeDelay) → merged_range h cells (d ∷ ds) m ≡ wider (range_of (said_by h cells d.delay) m) (merged_range h cells ds m)
  merged-more d ds = said-append (said_by h cells d.delay) (said h cells (without_edges ds)) m

  -- what those say that pass a test and those that pass another one
  pub wider-filters : (p q : EdgeDelay → Bool) (ds : List EdgeDelay) → wider (merged_range h cells (filter p ds) m) (merged_range h cells (filter q ds) m) ≡ merged_range h cells (filter (λ d. p d || q d) ds) m
  wider-filters p q [] = refl
  wider-filters p q (d ∷ ds) = by (p d) (q d) (wider-filters p q ds)
    where
      one : Option (ℤ × ℤ)
      one = range_of (said_by h cells d.delay) m

      by : (a b : Bool) → wider (merged_range h cells (filter p ds) m) (merged_range h cells (filter q ds) m) ≡ merged_range h cells (filter (λ d. p d || q d) ds) m →
          wider (merged_range h cells (cond a (d ∷ filter p ds) (filter p ds)) m) (merged_range h cells (cond b (d ∷ filter q ds) (filter q ds)) m)
          ≡ merged_range h cells (cond (a || b) (d ∷ filter (λ d. p d || q d) ds) (filter (λ d. p d || q d) ds)) m
      by true true rest =
          ap (λ v. wider v (merged_range h cells (d ∷ filter q ds) m)) (merged-more d (filter p ds)) ∙ ap (wider (wider one (merged_range h cells (filter p ds) m))) (merged-more d (filter q ds))
          ∙ both-more one (merged_range h cells (filter p ds) m) (merged_range h cells (filter q ds) m) ∙ ap (wider one) rest ∙ sym (merged-more d (filter (λ d. p d || q d) ds))
      by true false rest =
          ap (λ v. wider v (merged_range h cells (filter q ds) m)) (merged-more d (filter p ds)) ∙ wider-group one (merged_range h cells (filter p ds) m) (merged_range h cells (filter q ds) m)
          ∙ ap (wider one) rest ∙ sym (merged-more d (filter (λ d. p d || q d) ds))
      by false true rest =
          ap (wider (merged_range h cells (filter p ds) m)) (merged-more d (filter q ds)) ∙ second-more one (merged_range h cells (filter p ds) m) (merged_range h cells (filter q ds) m)
          ∙ ap (wider one) rest ∙ sym (merged-more d (filter (λ d. p d || q d) ds))
      by false false rest = rest

-- a test that all pass
filter-all : (p : EdgeDelay → Bool) (ds : List EdgeDelay) → All (λ d. p d ≡ true) ds → filter p ds ≡ ds
filter-all p [] all = refl
filter-all p (d ∷ ds) all =
    ap (λ b. cond b (d ∷ filter p ds) (filter p ds)) (All-head (λ d. p d ≡ true) d ds all) ∙ ap (λ xs. d ∷ xs) (filter-all p ds (All-tail (λ d. p d ≡ true) d ds all))

some-end : (a b x y : Bool) → (a || b) ≡ true → (x || y) ≡ true →
    (((true && a || true && b) && (true && x || false && y)) || ((true && a || true && b) && (false && x || true && y))) ≡ true
some-end true b true y e f = refl
some-end true b false true e f = refl
some-end false true true y e f = refl
some-end false true false true e f = refl
some-end false false x y e f = absurd (cc)
some-end a b false false e f = absurd (cc)

some-start : (a b x y : Bool) → (a || b) ≡ true → (x || y) ≡ true →
    (((true && a || false && b) && (true && x || true && y)) || ((false && a || true && b) && (true && x || true && y))) ≡ true
some-start true b true y e f = refl
some-start true b false true e f = refl
some-start false true true y e f = refl
some-start false true false true e f = refl
some-start false false x y e f = absurd (cc)
some-start a b false false e f = absurd (cc)

some-transition : (a b x y : Bool) → (a || b) ≡ true → (x || y) ≡ true →
    ((((true && a || false && b) && (true && x || false && y)) || ((true && a || false && b) && (false && x || true && y)))
    || (((false && a || true && b) && (true && x || false && y)) || ((false && a || true && b) && (false && x || true && y)))) ≡ true
some-transition true b true y e f = refl
some-transition true true false true e f = refl
some-transition true false false true e f = refl
some-transition false true true y e f = refl
some-transition false true false true e f = refl
some-transition false false x y e f = absurd (cc)
some-transition a b false false e f = absurd (cc)

module _ (h : Hierarchy) (cells : CellTable) (ds : List EdgeDelay) (edges : All HasEdges ds) (m : Target) where
  pub ends-whole : (x : ByEdge) → HasEnds h cells ds m x → all_of x ≡ merged_range h cells ds m
  ends-whole x ends =
      ap (λ v. wider v x.fall) (ends Rise) ∙ ap (wider (merged_range h cells (filter (speaks_of any (only Rise)) ds) m)) (ends Fall)
      ∙ wider-filters h cells m (speaks_of any (only Rise)) (speaks_of any (only Fall)) ds
      ∙ ap (λ xs. merged_range h cells xs m) (filter-all (λ d. speaks_of any (only Rise) d || speaks_of any (only Fall) d) ds (λ k d below. some-end (get_or ds k d).edge.rise (get_or ds k d).edge.fall (get_or ds k d).speaks.rise (get_or ds k d).speaks.fall (edges k d below).edge (edges k d below).speaks))

  -- at an edge, and where nothing is said there, all that is said
  pub at-ends : (x : ByEdge) (e : Edge) → HasEnds h cells ds m x → at_or_all x e ≡ wire_range h cells ds e m
  at-ends x e ends = ap (λ v. option_or v (all_of x)) (ends e) ∙ ap (option_or (merged_range h cells (filter (speaks_of any (only e)) ds) m)) (ends-whole x ends)

  -- the same by the edges from which they lead
  pub starts-whole : (x : ByEdge) → HasStarts h cells ds m x → all_of x ≡ merged_range h cells ds m
  starts-whole x starts =
      ap (λ v. wider v x.fall) (starts Rise) ∙ ap (wider (merged_range h cells (filter (speaks_of (only Rise) any) ds) m)) (starts Fall)
      ∙ wider-filters h cells m (speaks_of (only Rise) any) (speaks_of (only Fall) any) ds
      ∙ ap (λ xs. merged_range h cells xs m) (filter-all (λ d. speaks_of (only Rise) any d || speaks_of (only Fall) any d) ds (λ k d below. some-start (get_or ds k d).edge.rise (get_or ds k d).edge.fall (get_or ds k d).speaks.rise (get_or ds k d).speaks.fall (edges k d below).edge (edges k d below).speaks))

  pub at-starts : (x : ByEdge) (e : Edge) → HasStarts h cells ds m x → at_or_all x e ≡ range_at h cells ds (only e) any m
  at-starts x e starts = ap (λ v. option_or v (all_of x)) (starts e) ∙ ap (option_or (merged_range h cells (filter (speaks_of (only e) any) ds) m)) (starts-whole x starts)

  -- what is said at the transitions from an edge
  from-edge : (x : Spread) (i : Edge) → HasSpread h cells ds m x → all_of (begun x i) ≡ merged_range h cells (filter (λ d. speaks_of (only i) (only Rise) d || speaks_of (only i) (only Fall) d) ds) m
  from-edge x i spread =
      ap (λ v. wider v (begun x i).fall) (spread i Rise) ∙ ap (wider (merged_range h cells (filter (speaks_of (only i) (only Rise)) ds) m)) (spread i Fall)
      ∙ wider-filters h cells m (speaks_of (only i) (only Rise)) (speaks_of (only i) (only Fall)) ds

  pub spread-whole : (x : Spread) → HasSpread h cells ds m x → all_said x ≡ merged_range h cells ds m
  spread-whole x spread =
      ap (λ v. wider v (all_of x.fall)) (from-edge x Rise spread)
      ∙ ap (wider (merged_range h cells (filter (λ d. speaks_of (only Rise) (only Rise) d || speaks_of (only Rise) (only Fall) d) ds) m)) (from-edge x Fall spread)
      ∙ wider-filters h cells m (λ d. speaks_of (only Rise) (only Rise) d || speaks_of (only Rise) (only Fall) d) (λ d. speaks_of (only Fall) (only Rise) d || speaks_of (only Fall) (only Fall) d) ds
      ∙ ap (λ xs. merged_range h cells xs m)
      (filter-all (λ d. (speaks_of (only Rise) (only Rise) d || speaks_of (only Rise) (only Fall) d) || (speaks_of (only Fall) (only Rise) d || speaks_of (only Fall) (only Fall) d)) ds
      (λ k d below. some-transition (get_or ds k d).edge.rise (get_or ds k d).edge.fall (get_or ds k d).speaks.rise (get_or ds k d).speaks.fall (edges k d below).edge (edges k d below).speaks))

  -- at a transition, and where nothing is said there, all that is said
  pub at-transition : (x : Spread) (i o : Edge) → HasSpread h cells ds m x → said_at x i o ≡ gate_range h cells ds (transition i o) m
  at-transition x i o spread =
      ap (λ v. option_or v (all_said x)) (spread i o) ∙ ap (option_or (merged_range h cells (filter (speaks_of (only i) (only o)) ds) m)) (spread-whole x spread)
