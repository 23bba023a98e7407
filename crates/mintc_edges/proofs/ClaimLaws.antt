-- What is claimed, as it grows, and what all delays say.
use Rattle.std.proofs.Common.{◌≡◌, ℕ, ℤ, Bool, true, false, cond, ◌&&◌, List, [], ◌∷◌, ◌++◌, map, filter, Option, Some, None, refl, sym, ap, ◌∙◌}
use Rattle.std.proofs.lemmas.List.{map-append}
use Rattle.mintc_flatten_hierarchy.specs.declared.hierarchy.Hierarchy.{Hierarchy}
use Rattle.mintc_flatten_hierarchy.specs.Shape.{CellTable}
use Rattle.mintc_sdf_edges.specs.declared.delays.EdgeDelay.{EdgeDelay}
use Rattle.mintc_sdf_edges.specs.declared.delays.Edges.{Edges}
use Rattle.mintc_annotate_resolve.specs.Resolution.{Target, said, said_by, same_target, range_of, targets, resolved, dq_of, cq_of, path_on, join_into, arcs_from, setup_of, hold_of, width_of}
use Rattle.mintc_edges.specs.declared.edge.Edge.{Edge}
use Rattle.mintc_edges.specs.declared.edge.Edge.TheVariants.{Rise, Fall}
use Rattle.mintc_edges.specs.declared.spreads.ByEdge.{ByEdge}
use Rattle.mintc_edges.specs.declared.spreads.Spread.{Spread}
use Rattle.mintc_edges.specs.declared.told.Told.{Told}
use Rattle.mintc_edges.specs.Claims.{Claim, claims_of, claims, said_in, claimed, leads_to_pin, HasClaims}
use Rattle.mintc_edges.specs.Edges.{only, any}
use Rattle.mintc_edges.specs.Numbers.{without_edges, merged_range, speaks_of, wider}
use Rattle.mintc_edges.specs.Spreads.{at_one, begun, no_edges, no_spread, widened_if, widened_by, widened_along}
use Rattle.mintc_edges.specs.Told.{AreTold, IsUntold, to_output}
use Rattle.mintc_edges.proofs.WiderLaws.{wider-turn, said-append}

-- ---- lists
filter-append : {X : Type 0} (p : X → Bool) (xs ys : List X) → filter p (xs ++ ys) ≡ filter p xs ++ filter p ys
filter-append p [] ys = refl
filter-append p (x ∷ xs) ys = by (p x) (filter-append p xs ys)
  where
    by : (b : Bool) → filter p (xs ++ ys) ≡ filter p xs ++ filter p ys → cond b (x ∷ filter p (xs ++ ys)) (filter p (xs ++ ys)) ≡ cond b (x ∷ filter p xs) (filter p xs) ++ filter p ys
    by true e = ap (λ l. x ∷ l) e
    by false e = e

filter-both : {X : Type 0} (p q : X → Bool) (xs : List X) → filter (λ x. q x && p x) xs ≡ filter p (filter q xs)
filter-both p q [] = refl
filter-both p q (x ∷ xs) = by (q x) (filter-both p q xs)
  where
    by : (b : Bool) → filter (λ x. q x && p x) xs ≡ filter p (filter q xs) →
        cond (b && p x) (x ∷ filter (λ x. q x && p x) xs) (filter (λ x. q x && p x) xs) ≡ filter p (cond b (x ∷ filter q xs) (filter q xs))
    by true e = ap (λ l. cond (p x) (x ∷ l) l) e
    by false e = e

-- ---- one more claim
claimed-append : (p : EdgeDelay → Bool) (cs es : List Claim) (m : Target) → claimed p (cs ++ es) m ≡ wider (claimed p cs m) (claimed p es m)
claimed-append p cs es m =
    ap (λ l. range_of (map said_in l) m) (filter-append (λ (c : Claim). p c.delay) cs es)
    ∙ ap (λ l. range_of l m) (map-append said_in (filter (λ (c : Claim). p c.delay) cs) (filter (λ (c : Claim). p c.delay) es))
    ∙ said-append (map said_in (filter (λ (c : Claim). p c.delay) cs)) (map said_in (filter (λ (c : Claim). p c.delay) es)) m

abbrev range : ℤ → ℤ → Option (ℤ × ℤ)
range x y = Some (x, y)

one-claim : (p : EdgeDelay → Bool) (c : Claim) (m : Target) (t : Bool) → (p c.delay && same_target c.target m) ≡ t → claimed p (c ∷ []) m ≡ cond t (range c.delay.delay.least c.delay.delay.greatest) None
one-claim p c m t is = by (p c.delay) (same_target c.target m) ∙ ap (λ b. cond b (range c.delay.delay.least c.delay.delay.greatest) None) is
  where
    by : (x y : Bool) → range_of (map said_in (cond x (c ∷ []) [])) m ≡ cond (x && same_target c.target m) (range c.delay.delay.least c.delay.delay.greatest) None
    by true y = refl
    by false y = refl

-- what a place has once it has taken in a claim, where a test of the place and one of edges are those of the claim
pub taken : (p : EdgeDelay → Bool) (cs : List Claim) (c : Claim) (m : Target) (test takes : Bool) (r : Option (ℤ × ℤ)) → r ≡ claimed p cs m → (test && takes) ≡ (p c.delay && same_target c.target m) →
    cond test (widened_if takes c.delay.delay.least c.delay.delay.greatest r) r ≡ claimed p (cs ++ c ∷ []) m
taken p cs c m test takes r has same =
    by test takes ∙ ap (λ v. wider v r) (sym (one-claim p c m (test && takes) (sym same))) ∙ ap (wider (claimed p (c ∷ []) m)) has ∙ wider-turn (claimed p (c ∷ []) m) (claimed p cs m) ∙ sym (claimed-append p cs (c ∷ []) m)
  where
    by : (x y : Bool) → cond x (widened_if y c.delay.delay.least c.delay.delay.greatest r) r ≡ wider (cond (x && y) (range c.delay.delay.least c.delay.delay.greatest) None) r
    by true true = refl
    by true false = refl
    by false y = refl

-- ---- what the code keeps, with one more number
-- whether edges have an edge
abbrev pub in_edges : Edges → Edge → Bool
in_edges xs Rise = xs.rise
in_edges xs Fall = xs.fall

pub at-widened : (test : Bool) (edges : Edges) (least greatest : ℤ) (x : ByEdge) (e : Edge) →
    at_one (cond test (widened_by edges least greatest x) x) e ≡ cond test (widened_if (in_edges edges e) least greatest (at_one x e)) (at_one x e)
at-widened true edges least greatest x Rise = refl
at-widened true edges least greatest x Fall = refl
at-widened false edges least greatest x e = refl

pub along-widened : (test : Bool) (from to : Edges) (least greatest : ℤ) (x : Spread) (a b : Edge) →
    at_one (begun (cond test (widened_along from to least greatest x) x) a) b ≡ cond test (widened_if (in_edges from a && in_edges to b) least greatest (at_one (begun x a) b)) (at_one (begun x a) b)
along-widened false from to least greatest x a b = refl
along-widened true from to least greatest x Rise b = by from.rise b
  where
    by : (t : Bool) (b : Edge) → at_one (cond t (widened_by to least greatest x.rise) x.rise) b ≡ widened_if (t && in_edges to b) least greatest (at_one x.rise b)
    by true Rise = refl
    by true Fall = refl
    by false b = refl
along-widened true from to least greatest x Fall b = by from.fall b
  where
    by : (t : Bool) (b : Edge) → at_one (cond t (widened_by to least greatest x.fall) x.fall) b ≡ widened_if (t && in_edges to b) least greatest (at_one x.fall b)
    by true Rise = refl
    by true Fall = refl
    by false b = refl

-- ---- all claims
module _ (h : Hierarchy) (cells : CellTable) where
  claims-by : (p : EdgeDelay → Bool) (d : EdgeDelay) (ms : List Target) (b : Bool) → p d ≡ b → filter (λ (c : Claim). p c.delay) (claims_of d ms) ≡ cond b (claims_of d ms) []
  claims-by p d [] true is = refl
  claims-by p d [] false is = refl
  claims-by p d (m ∷ ms) true is =
      ap (λ t. cond t (record { target = m; delay = d } ∷ filter (λ (c : Claim). p c.delay) (claims_of d ms)) (filter (λ (c : Claim). p c.delay) (claims_of d ms))) is
      ∙ ap (λ l. record { target = m; delay = d } ∷ l) (claims-by p d ms true is)
  claims-by p d (m ∷ ms) false is =
      ap (λ t. cond t (record { target = m; delay = d } ∷ filter (λ (c : Claim). p c.delay) (claims_of d ms)) (filter (λ (c : Claim). p c.delay) (claims_of d ms))) is
      ∙ claims-by p d ms false is

  says-claims : (d : EdgeDelay) (ms : List Target) → map said_in (claims_of d ms) ≡ map (λ (m : Target). record { target = m; least = d.delay.least; greatest = d.delay.greatest }) ms
  says-claims d [] = refl
  says-claims d (m ∷ ms) = ap (λ l. record { target = m; least = d.delay.least; greatest = d.delay.greatest } ∷ l) (says-claims d ms)

  -- what all claims say whose delays pass a test is what those delays say
  pub claimed-whole : (p : EdgeDelay → Bool) (ds : List EdgeDelay) (m : Target) → claimed p (claims h cells ds) m ≡ merged_range h cells (filter p ds) m
  claimed-whole p [] m = refl
  claimed-whole p (d ∷ ds) m =
      claimed-append p (claims_of d (targets (resolved h cells d.delay))) (claims h cells ds) m ∙ by (p d) refl (claimed-whole p ds m)
    where
      by : (b : Bool) → p d ≡ b → claimed p (claims h cells ds) m ≡ merged_range h cells (filter p ds) m →
          wider (claimed p (claims_of d (targets (resolved h cells d.delay))) m) (claimed p (claims h cells ds) m) ≡ merged_range h cells (cond b (d ∷ filter p ds) (filter p ds)) m
      by true is rest =
          ap (λ l. wider (range_of (map said_in l) m) (claimed p (claims h cells ds) m)) (claims-by p d (targets (resolved h cells d.delay)) true is)
          ∙ ap (λ l. wider (range_of l m) (claimed p (claims h cells ds) m)) (says-claims d (targets (resolved h cells d.delay)))
          ∙ ap (wider (range_of (said_by h cells d.delay) m)) rest ∙ sym (said-append (said_by h cells d.delay) (said h cells (without_edges (filter p ds))) m)
      by false is rest =
          ap (λ l. wider (range_of (map said_in l) m) (claimed p (claims h cells ds) m)) (claims-by p d (targets (resolved h cells d.delay)) false is) ∙ rest

  -- what delays to an output say
  to-output-whole : (p : EdgeDelay → Bool) (l o : ℕ) (ds : List EdgeDelay) (m : Target) →
      claimed (λ d. leads_to_pin h cells l o d && p d) (claims h cells ds) m ≡ merged_range h cells (filter p (to_output h cells l o ds)) m
  to-output-whole p l o ds m =
      claimed-whole (λ d. leads_to_pin h cells l o d && p d) ds m ∙ ap (λ xs. merged_range h cells xs m) (filter-both p (leads_to_pin h cells l o) ds)

  -- the table of all claims holds what delays say
  pub all-told : (ds : List EdgeDelay) (told : Told) → HasClaims h cells (claims h cells ds) told → AreTold h cells ds told
  all-told ds told has = record {
    gates = λ l i o gate a b. has.gates l i o gate a b ∙ claimed-whole (speaks_of (only a) (only b)) ds (path_on l i o);
    from_data = λ l o latch a b. has.from_data l o latch a b ∙ to-output-whole (speaks_of (only a) (only b)) l o ds (dq_of l);
    from_enable = λ l o latch a b. has.from_enable l o latch a b ∙ to-output-whole (speaks_of any (only b)) l o ds (cq_of l);
    from_clock = λ l o flop a b. has.from_clock l o flop a b ∙ to-output-whole (speaks_of any (only b)) l o ds (dq_of l);
    joins = λ b e. has.joins b e ∙ claimed-whole (speaks_of any (only e)) ds (join_into b);
    ports = λ b e. has.ports b e ∙ claimed-whole (speaks_of any (only e)) ds (arcs_from b);
    setups = λ l e. has.setups l e ∙ claimed-whole (speaks_of (only e) any) ds (setup_of l);
    holds = λ l e. has.holds l e ∙ claimed-whole (speaks_of (only e) any) ds (hold_of l);
    widths = λ l e. has.widths l e ∙ claimed-whole (speaks_of any (only e)) ds (width_of l);
  }

  -- nothing is claimed at first
  none-at : (e : Edge) → at_one no_edges e ≡ None
  none-at Rise = refl
  none-at Fall = refl

  none-along : (a b : Edge) → at_one (begun no_spread a) b ≡ None
  none-along Rise b = none-at b
  none-along Fall b = none-at b

  pub no-claims : (told : Told) → IsUntold told → HasClaims h cells [] told
  no-claims told untold = record {
    gates = λ l i o gate a b. ap (λ x. at_one (begun x a) b) (untold.paths (l, i, o)) ∙ none-along a b;
    from_data = λ l o latch a b. ap (λ x. at_one (begun x a) b) (untold.paths (l, 0, o)) ∙ none-along a b;
    from_enable = λ l o latch a b. ap (λ x. at_one (begun x a) b) (untold.paths (l, 1, o)) ∙ none-along a b;
    from_clock = λ l o flop a b. ap (λ x. at_one (begun x a) b) (untold.paths (l, 1, o)) ∙ none-along a b;
    joins = λ b e. ap (λ x. at_one x e) (untold.joins b) ∙ none-at e;
    ports = λ b e. ap (λ x. at_one x e) (untold.ports b) ∙ none-at e;
    setups = λ l e. ap (λ x. at_one x e) (untold.setups l) ∙ none-at e;
    holds = λ l e. ap (λ x. at_one x e) (untold.holds l) ∙ none-at e;
    widths = λ l e. ap (λ x. at_one x e) (untold.widths l) ∙ none-at e;
  }
