-- Delays by edge say together, whatever their edges, what the delays say that they merge to.
use Rattle.std.proofs.Common.{◌≡◌, ℤ, ◌≤ℤ◌, Bool, true, false, cond, ◌||◌, List, [], ◌∷◌, ◌++◌, map, get_or, All, Option, Some, None, arith, refl, ap, ◌∙◌, sym, subst}
use Rattle.std.specs.Int.{int_min, int_max}
use Rattle.std.proofs.lemmas.Int.{ints, clamps, int_min_is, int_max_is}
use Rattle.std.proofs.lemmas.Grind.{flat_map-append}
use Rattle.std.proofs.lemmas.List.{map-append}
use Rattle.std.proofs.lemmas.List.Elements.{All-cons, All-nil, All-head, All-tail}
use Rattle.std.proofs.Math.Path.{fun_ext}
use Rattle.mintc_flatten_hierarchy.specs.declared.hierarchy.Hierarchy.{Hierarchy}
use Rattle.mintc_flatten_hierarchy.specs.Shape.{CellTable}
use Rattle.mintc_sdf.specs.declared.delays.Delay.{Delay}
use Rattle.mintc_sdf.specs.declared.delays.Place.{Place}
use Rattle.mintc_sdf.specs.declared.delays.Place.TheVariants.{Top, Every, Path}
use Rattle.mintc_sdf_edges.specs.declared.delays.EdgeDelay.{EdgeDelay}
use Rattle.mintc_sdf_edges.specs.Telling.{with_span}
use Rattle.mintc_sdf_edges.specs.Laws.{IsMerged, AreMerged}
use Rattle.mintc_annotate_resolve.specs.Resolution.{Target, Said, said, said_by, same_target, range_of, widened, resolved, targets, of_place}
use Rattle.mintc_edges.specs.Numbers.{without_edges, wider, widest}

-- ---- the wider of two

abbrev pair : ℤ → ℤ → Option (ℤ × ℤ)
pair x y = Some (x, y)

min_group : (x y z : ℤ) → int_min (int_min x y) z ≡ int_min x (int_min y z)
min_group x y z = omega (arith, ints, int_min_is (int_min x y) z, int_min_is x y, int_min_is x (int_min y z), int_min_is y z)

max_group : (x y z : ℤ) → int_max (int_max x y) z ≡ int_max x (int_max y z)
max_group x y z = omega (arith, ints, int_max_is (int_max x y) z, int_max_is x y, int_max_is x (int_max y z), int_max_is y z)

min_same : (x : ℤ) → int_min x x ≡ x
min_same x = omega (arith, ints, int_min_is x x)

max_same : (x : ℤ) → int_max x x ≡ x
max_same x = omega (arith, ints, int_max_is x x)

wider-group : (a b c : Option (ℤ × ℤ)) → wider (wider a b) c ≡ wider a (wider b c)
wider-group None b c = refl
wider-group (Some x) None c = refl
wider-group (Some x) (Some y) None = refl
wider-group (Some x) (Some y) (Some z) = ap (λ v. pair v (int_max (int_max x.1 y.1) z.1)) (min_group x.0 y.0 z.0) ∙ ap (pair (int_min x.0 (int_min y.0 z.0))) (max_group x.1 y.1 z.1)

said-append : (ss xs : List Said) (m : Target) → range_of (ss ++ xs) m ≡ wider (range_of ss m) (range_of xs m)
said-append [] xs m = refl
said-append (s ∷ ss) xs m = by (same_target s.target m) (said-append ss xs m)
  where
    by : (b : Bool) → range_of (ss ++ xs) m ≡ wider (range_of ss m) (range_of xs m) →
        cond b (Some (widened s.least s.greatest (range_of (ss ++ xs) m))) (range_of (ss ++ xs) m) ≡ wider (cond b (Some (widened s.least s.greatest (range_of ss m))) (range_of ss m)) (range_of xs m)
    by true e = ap (λ r. wider (pair s.least s.greatest) r) e ∙ sym (wider-group (pair s.least s.greatest) (range_of ss m) (range_of xs m))
    by false e = e

-- ---- one delay

-- whether a target is among some
abbrev is_target : List Target → Target → Bool
is_target [] m = false
is_target (t ∷ ts) m = same_target t m || is_target ts m

-- these numbers of each target
abbrev says : ℤ → ℤ → List Target → List Said
says least greatest ts = map (λ t. record { target = t; least = least; greatest = greatest }) ts

-- of a target that is among them these numbers are said, however often it is
says-once : (least greatest : ℤ) (ts : List Target) (m : Target) → range_of (says least greatest ts) m ≡ cond (is_target ts m) (pair least greatest) None
says-once least greatest [] m = refl
says-once least greatest (t ∷ ts) m = by (same_target t m) (is_target ts m) (says-once least greatest ts m)
  where
    by : (b c : Bool) → range_of (says least greatest ts) m ≡ cond c (pair least greatest) None →
        cond b (Some (widened least greatest (range_of (says least greatest ts) m))) (range_of (says least greatest ts) m) ≡ cond (b || c) (pair least greatest) None
    by true true e = ap (λ r. Some (widened least greatest r)) e ∙ ap (λ v. pair v (int_max greatest greatest)) (min_same least) ∙ ap (pair least) (max_same greatest)
    by true false e = ap (λ r. Some (widened least greatest r)) e
    by false c e = e

module _ (h : Hierarchy) (cells : CellTable) where
  -- what a delay annotates doesn't rest on its numbers
  place-alike : (d : Delay) (r : ℤ × ℤ) (p : Place) → of_place h cells (with_span d r) p ≡ of_place h cells d p
  place-alike d r Top = refl
  place-alike d r Every = refl
  place-alike d r (Path path) = refl

  resolved-alike : (d : Delay) (r : ℤ × ℤ) → resolved h cells (with_span d r) ≡ resolved h cells d
  resolved-alike d r = place-alike d r d.place

  -- what a delay says of a target
  by-one : (d : Delay) (m : Target) → range_of (said_by h cells d) m ≡ cond (is_target (targets (resolved h cells d)) m) (pair d.least d.greatest) None
  by-one d m = says-once d.least d.greatest (targets (resolved h cells d)) m

  by-span : (d : Delay) (r : ℤ × ℤ) (m : Target) → range_of (said_by h cells (with_span d r)) m ≡ cond (is_target (targets (resolved h cells d)) m) (pair r.0 r.1) None
  by-span d r m = by-one (with_span d r) m ∙ ap (λ x. cond (is_target (targets x) m) (pair r.0 r.1) None) (resolved-alike d r)

-- ---- several delays by edge of one delay

-- the numbers of a delay by edge
abbrev span : EdgeDelay → Option (ℤ × ℤ)
span e = pair e.delay.least e.delay.greatest

-- each is that delay with numbers of its own
abbrev AreOf : Delay → List EdgeDelay → Type 0
AreOf d es = All (λ (e : EdgeDelay). e.delay ≡ with_span d (e.delay.least, e.delay.greatest)) es

module _ (h : Hierarchy) (cells : CellTable) (d : Delay) (m : Target) where
  mine-said : (es : List EdgeDelay) → AreOf d es → range_of (said h cells (without_edges es)) m ≡ cond (is_target (targets (resolved h cells d)) m) (widest (map span es)) None
  mine-said [] of = by (is_target (targets (resolved h cells d)) m)
    where
      by : (b : Bool) → range_of [] m ≡ cond b (widest []) None
      by true = refl
      by false = refl
  mine-said (e ∷ es) of =
      said-append (said_by h cells e.delay) (said h cells (without_edges es)) m
      ∙ ap (λ r. wider r (range_of (said h cells (without_edges es)) m)) first
      ∙ ap (wider (cond (is_target (targets (resolved h cells d)) m) (span e) None)) (mine-said es (All-tail (λ (x : EdgeDelay). x.delay ≡ with_span d (x.delay.least, x.delay.greatest)) e es of))
      ∙ by (is_target (targets (resolved h cells d)) m)
    where
      first : range_of (said_by h cells e.delay) m ≡ cond (is_target (targets (resolved h cells d)) m) (span e) None
      first = ap (λ x. range_of (said_by h cells x) m) (All-head (λ (x : EdgeDelay). x.delay ≡ with_span d (x.delay.least, x.delay.greatest)) e es of) ∙ by-span h cells d (e.delay.least, e.delay.greatest) m

      by : (b : Bool) → wider (cond b (span e) None) (cond b (widest (map span es)) None) ≡ cond b (widest (map span (e ∷ es))) None
      by true = refl
      by false = refl

-- ---- the widest of their numbers

-- the first of two numbers is the greatest that no least number is below, the second the least that no greatest is above
record IsWidest (es : List EdgeDelay) (r : ℤ × ℤ) : Type 0 where
  bottom : All (λ (e : EdgeDelay). r.0 ≤ℤ e.delay.least) es
  lowest : (b : ℤ) → All (λ (e : EdgeDelay). b ≤ℤ e.delay.least) es → b ≤ℤ r.0
  top : All (λ (e : EdgeDelay). e.delay.greatest ≤ℤ r.1) es
  highest : (b : ℤ) → All (λ (e : EdgeDelay). e.delay.greatest ≤ℤ b) es → r.1 ≤ℤ b

self : (x : ℤ) → x ≤ℤ x
self x = omega (arith, ints)

lower : (x y z : ℤ) → y ≤ℤ z → int_min x y ≤ℤ z
lower x y z h = omega (arith, ints, clamps, h)

higher : (x y z : ℤ) → z ≤ℤ y → z ≤ℤ int_max x y
higher x y z h = omega (arith, ints, clamps, h)

least-first : (x y : ℤ) → int_min x y ≤ℤ x
least-first x y = omega (arith, ints, clamps)

greatest-first : (x y : ℤ) → x ≤ℤ int_max x y
greatest-first x y = omega (arith, ints, clamps)

below-both : (b x y : ℤ) → b ≤ℤ x → b ≤ℤ y → b ≤ℤ int_min x y
below-both b x y h g = omega (arith, ints, clamps, h, g)

above-both : (b x y : ℤ) → x ≤ℤ b → y ≤ℤ b → int_max x y ≤ℤ b
above-both b x y h g = omega (arith, ints, clamps, h, g)

both-ways : (x y : ℤ) → x ≤ℤ y → y ≤ℤ x → x ≡ y
both-ways x y h g = omega (arith, ints, h, g)

All-weaker : {X : Type 0} (P Q : X → Type 0) (xs : List X) → ((x : X) → P x → Q x) → All P xs → All Q xs
All-weaker P Q xs f h = λ k d l. f (get_or xs k d) (h k d l)

abbrev Widest : List EdgeDelay → Type 0
Widest es = (r : ℤ × ℤ) × (widest (map span es) ≡ Some r) × IsWidest es r

is-widest : (e : EdgeDelay) (es : List EdgeDelay) → Widest (e ∷ es)
is-widest e [] = (
  (e.delay.least, e.delay.greatest),
  refl,
  record {
    bottom = All-cons (λ (f : EdgeDelay). e.delay.least ≤ℤ f.delay.least) e [] (self e.delay.least) (All-nil _);
    lowest = λ b h. All-head (λ (f : EdgeDelay). b ≤ℤ f.delay.least) e [] h;
    top = All-cons (λ (f : EdgeDelay). f.delay.greatest ≤ℤ e.delay.greatest) e [] (self e.delay.greatest) (All-nil _);
    highest = λ b h. All-head (λ (f : EdgeDelay). f.delay.greatest ≤ℤ b) e [] h;
  },
)
is-widest e (f ∷ es) = more (is-widest f es)
  where
    more : Widest (f ∷ es) → Widest (e ∷ f ∷ es)
    more (r, same, is) = (
      (int_min e.delay.least r.0, int_max e.delay.greatest r.1),
      ap (wider (span e)) same,
      record {
        bottom = All-cons (λ (g : EdgeDelay). int_min e.delay.least r.0 ≤ℤ g.delay.least) e (f ∷ es) (least-first e.delay.least r.0)
            (All-weaker (λ (g : EdgeDelay). r.0 ≤ℤ g.delay.least) (λ (g : EdgeDelay). int_min e.delay.least r.0 ≤ℤ g.delay.least) (f ∷ es) (λ x h. lower e.delay.least r.0 x.delay.least h) is.bottom);
        lowest = λ b h. below-both b e.delay.least r.0 (All-head (λ (g : EdgeDelay). b ≤ℤ g.delay.least) e (f ∷ es) h) (is.lowest b (All-tail (λ (g : EdgeDelay). b ≤ℤ g.delay.least) e (f ∷ es) h));
        top = All-cons (λ (g : EdgeDelay). g.delay.greatest ≤ℤ int_max e.delay.greatest r.1) e (f ∷ es) (greatest-first e.delay.greatest r.1)
            (All-weaker (λ (g : EdgeDelay). g.delay.greatest ≤ℤ r.1) (λ (g : EdgeDelay). g.delay.greatest ≤ℤ int_max e.delay.greatest r.1) (f ∷ es) (λ x h. higher e.delay.greatest r.1 x.delay.greatest h) is.top);
        highest = λ b h. above-both b e.delay.greatest r.1 (All-head (λ (g : EdgeDelay). g.delay.greatest ≤ℤ b) e (f ∷ es) h) (is.highest b (All-tail (λ (g : EdgeDelay). g.delay.greatest ≤ℤ b) e (f ∷ es) h));
      },
    )

-- the numbers of a delay are the widest of those that it merges
merged-widest : (d : Delay) (es : List EdgeDelay) → IsMerged es d → widest (map span es) ≡ pair d.least d.greatest
merged-widest d [] merged = absurd (omega (arith, merged.has_least.2))
merged-widest d (e ∷ es) merged = by (is-widest e es)
  where
    by : Widest (e ∷ es) → widest (map span (e ∷ es)) ≡ pair d.least d.greatest
    by (r, same, is) =
        let low-k : get_or (e ∷ es) merged.has_least.0 merged.has_least.1 ≡ merged.has_least.1 = merged.has_least.3 in
        let reached : r.0 ≤ℤ merged.has_least.1.delay.least = subst (λ (x : EdgeDelay). r.0 ≤ℤ x.delay.least) low-k (is.bottom merged.has_least.0 merged.has_least.1 merged.has_least.2) in
        let low : r.0 ≡ d.least = both-ways r.0 d.least (subst (λ (z : ℤ). r.0 ≤ℤ z) merged.has_least.4 reached) (is.lowest d.least merged.least) in
        let high-k : get_or (e ∷ es) merged.has_greatest.0 merged.has_greatest.1 ≡ merged.has_greatest.1 = merged.has_greatest.3 in
        let topped : merged.has_greatest.1.delay.greatest ≤ℤ r.1 = subst (λ (x : EdgeDelay). x.delay.greatest ≤ℤ r.1) high-k (is.top merged.has_greatest.0 merged.has_greatest.1 merged.has_greatest.2) in
        let high : r.1 ≡ d.greatest = both-ways r.1 d.greatest (is.highest d.greatest merged.greatest) (subst (λ (z : ℤ). z ≤ℤ r.1) merged.has_greatest.4 topped) in
        same ∙ ap (λ v. pair v r.1) low ∙ ap (pair d.least) high

-- ---- all delays

module _ (h : Hierarchy) (cells : CellTable) where
  same-range : (es : List EdgeDelay) (ds : List Delay) (m : Target) → AreMerged es ds → range_of (said h cells (without_edges es)) m ≡ range_of (said h cells ds) m
  same-range es [] m none = ap (λ (xs : List EdgeDelay). range_of (said h cells (without_edges xs)) m) none
  same-range es (d ∷ ds) m (mine, rest, whole, merged, more) =
      ap (λ (xs : List EdgeDelay). range_of (said h cells (without_edges xs)) m) whole
      ∙ ap (λ (xs : List Delay). range_of (said h cells xs) m) (map-append (λ (e : EdgeDelay). e.delay) mine rest)
      ∙ ap (λ (xs : List Said). range_of xs m) (flat_map-append (said_by h cells) (without_edges mine) (without_edges rest))
      ∙ said-append (said h cells (without_edges mine)) (said h cells (without_edges rest)) m
      ∙ ap (λ r. wider r (range_of (said h cells (without_edges rest)) m)) first
      ∙ ap (wider (range_of (said_by h cells d) m)) (same-range rest ds m more)
      ∙ sym (said-append (said_by h cells d) (said h cells ds) m)
    where
      first : range_of (said h cells (without_edges mine)) m ≡ range_of (said_by h cells d) m
      first = mine-said h cells d m mine merged.same ∙ ap (λ r. cond (is_target (targets (resolved h cells d)) m) r None) (merged-widest d mine merged) ∙ sym (by-one h cells d m)

  -- so what they say is the same of each target
  pub same-ranges : (es : List EdgeDelay) (ds : List Delay) → AreMerged es ds → range_of (said h cells ds) ≡ range_of (said h cells (without_edges es))
  same-ranges es ds merged = fun_ext (λ m. sym (same-range es ds m merged))
