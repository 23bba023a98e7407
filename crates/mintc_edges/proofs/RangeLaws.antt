-- What delays say at an edge lies within what they say whatever the edge.
use Rattle.std.proofs.Common.{◌≡◌, ℕ, ℤ, ◌≤ℤ◌, Bool, true, false, cond, List, [], ◌∷◌, ◌++◌, map, filter, flat_map, Option, Some, None, arith, refl}
use Rattle.std.proofs.lemmas.Int.{ints, clamps}
use Rattle.std.specs.Option.{option_or}
use Rattle.mintc_flatten_hierarchy.specs.declared.hierarchy.Hierarchy.{Hierarchy}
use Rattle.mintc_flatten_hierarchy.specs.Shape.{CellTable}
use Rattle.mintc_sdf_edges.specs.declared.delays.Edges.{Edges}
use Rattle.mintc_sdf_edges.specs.declared.delays.EdgeDelay.{EdgeDelay}
use Rattle.mintc_annotate_resolve.specs.Resolution.{Target, dq_of, cq_of, setup_of, hold_of, width_of, path_on, join_into, arcs_from, Said, said, said_by, same_target, range_of, widened}
use Rattle.mintc_annotate_resolve.specs.Pins.{leaf_cell, output_numbers}
use Rattle.mintc_edges.specs.declared.edge.Edge.{Edge}
use Rattle.mintc_edges.specs.Edges.{only, any}
use Rattle.mintc_edges.specs.Numbers.{SenseOf, without_edges, merged_range, range_at, wider, widest, pin_ranges, stored_range, element_range, to_pin, speaks_of}

-- Nothing, or numbers within those of another.
abbrev pub IsPart : Option (ℤ × ℤ) → Option (ℤ × ℤ) → Type 0
IsPart whole None = Unit {0}
IsPart None (Some r) = ⊥
IsPart (Some w) (Some r) = (w.0 ≤ℤ r.0) × (r.1 ≤ℤ w.1)

-- Nothing where there is nothing, else numbers within those of another.
abbrev pub IsInside : Option (ℤ × ℤ) → Option (ℤ × ℤ) → Type 0
IsInside None None = Unit {0}
IsInside None (Some r) = ⊥
IsInside (Some w) None = ⊥
IsInside (Some w) (Some r) = (w.0 ≤ℤ r.0) × (r.1 ≤ℤ w.1)

part-same : (r : Option (ℤ × ℤ)) → IsPart r r
part-same None = tt
part-same (Some r) = (omega (arith, ints), omega (arith, ints))

part-trans : (a b c : Option (ℤ × ℤ)) → IsPart a b → IsPart b c → IsPart a c
part-trans a b None h k = tt
part-trans a None (Some r) h k = absurd k
part-trans None (Some q) (Some r) h k = absurd h
part-trans (Some p) (Some q) (Some r) h k = (omega (arith, ints, h.0, k.0), omega (arith, ints, h.1, k.1))

pub inside-same : (r : Option (ℤ × ℤ)) → IsInside r r
inside-same None = tt
inside-same (Some r) = (omega (arith, ints), omega (arith, ints))

-- a part, and where there is none the whole
pub inside-or : (whole part : Option (ℤ × ℤ)) → IsPart whole part → IsInside whole (option_or part whole)
inside-or whole None h = inside-same whole
inside-or None (Some r) h = absurd h
inside-or (Some w) (Some r) h = h

part-inside : (whole inner : Option (ℤ × ℤ)) → IsInside whole inner → IsPart whole inner
part-inside None None h = tt
part-inside None (Some r) h = absurd h
part-inside (Some w) None h = tt
part-inside (Some w) (Some r) h = h

part-widened : (x : ℤ × ℤ) (b c : Option (ℤ × ℤ)) → IsPart b c → IsPart (Some (widened x.0 x.1 b)) (Some (widened x.0 x.1 c))
part-widened x None None h = (omega (arith, ints), omega (arith, ints))
part-widened x None (Some r) h = absurd h
part-widened x (Some q) None h = (omega (arith, ints, clamps), omega (arith, ints, clamps))
part-widened x (Some q) (Some r) h = (omega (arith, ints, clamps, h.0), omega (arith, ints, clamps, h.1))

part-wider_left : (x : ℤ × ℤ) (b c : Option (ℤ × ℤ)) → IsPart b c → IsPart (Some (widened x.0 x.1 b)) c
part-wider_left x b None h = tt
part-wider_left x None (Some r) h = absurd h
part-wider_left x (Some q) (Some r) h = (omega (arith, ints, clamps, h.0), omega (arith, ints, clamps, h.1))

-- What both say is within a range where what each says is.
part-wider : (whole a b : Option (ℤ × ℤ)) → IsPart whole a → IsPart whole b → IsPart whole (wider a b)
part-wider whole None b h k = k
part-wider None (Some x) b h k = absurd h
part-wider (Some w) (Some x) None h k = (omega (arith, ints, h.0), omega (arith, ints, h.1))
part-wider (Some w) (Some x) (Some y) h k = (omega (arith, ints, clamps, h.0, k.0), omega (arith, ints, clamps, h.1, k.1))

-- Each of some ranges is within a range.
abbrev AllParts : Option (ℤ × ℤ) → List (Option (ℤ × ℤ)) → Type 0
AllParts whole [] = Unit {0}
AllParts whole (r ∷ rs) = IsPart whole r × AllParts whole rs

parts-append : (whole : Option (ℤ × ℤ)) (xs ys : List (Option (ℤ × ℤ))) → AllParts whole xs → AllParts whole ys → AllParts whole (xs ++ ys)
parts-append whole [] ys h k = k
parts-append whole (x ∷ xs) ys h k = (h.0, parts-append whole xs ys h.1 k)

parts-map : {X : Type 0} (whole : Option (ℤ × ℤ)) (f : X → Option (ℤ × ℤ)) → ((x : X) → IsPart whole (f x)) → (xs : List X) → AllParts whole (map f xs)
parts-map whole f h [] = tt
parts-map whole f h (x ∷ xs) = (h x, parts-map whole f h xs)

parts-flat : {X : Type 0} (whole : Option (ℤ × ℤ)) (f : X → List (Option (ℤ × ℤ))) → ((x : X) → AllParts whole (f x)) → (xs : List X) → AllParts whole (flat_map f xs)
parts-flat whole f h [] = tt
parts-flat whole f h (x ∷ xs) = parts-append whole (f x) (flat_map f xs) (h x) (parts-flat whole f h xs)

part-widest : (whole : Option (ℤ × ℤ)) (rs : List (Option (ℤ × ℤ))) → AllParts whole rs → IsPart whole (widest rs)
part-widest whole [] h = tt
part-widest whole (r ∷ rs) h = part-wider whole r (widest rs) h.0 (part-widest whole rs h.1)

-- one more that is said, of both or of the whole alone
part-both : (s : Said) (m : Target) (xs ys : List Said) → IsPart (range_of xs m) (range_of ys m) → IsPart (range_of (s ∷ xs) m) (range_of (s ∷ ys) m)
part-both s m xs ys h = by (same_target s.target m) refl
  where
    by : (b : Bool) → same_target s.target m ≡ b → IsPart (cond b (Some (widened s.least s.greatest (range_of xs m))) (range_of xs m)) (cond b (Some (widened s.least s.greatest (range_of ys m))) (range_of ys m))
    by true e = part-widened (s.least, s.greatest) (range_of xs m) (range_of ys m) h
    by false e = h

part-more : (s : Said) (m : Target) (xs ys : List Said) → IsPart (range_of xs m) (range_of ys m) → IsPart (range_of (s ∷ xs) m) (range_of ys m)
part-more s m xs ys h = by (same_target s.target m) refl
  where
    by : (b : Bool) → same_target s.target m ≡ b → IsPart (cond b (Some (widened s.least s.greatest (range_of xs m))) (range_of xs m)) (range_of ys m)
    by true e = part-wider_left (s.least, s.greatest) (range_of xs m) (range_of ys m) h
    by false e = h

parts-both : (ss : List Said) (m : Target) (xs ys : List Said) → IsPart (range_of xs m) (range_of ys m) → IsPart (range_of (ss ++ xs) m) (range_of (ss ++ ys) m)
parts-both [] m xs ys h = h
parts-both (s ∷ ss) m xs ys h = part-both s m (ss ++ xs) (ss ++ ys) (parts-both ss m xs ys h)

parts-more : (ss : List Said) (m : Target) (xs ys : List Said) → IsPart (range_of xs m) (range_of ys m) → IsPart (range_of (ss ++ xs) m) (range_of ys m)
parts-more [] m xs ys h = h
parts-more (s ∷ ss) m xs ys h = part-more s m (ss ++ xs) ys (parts-more ss m xs ys h)

module _ (h : Hierarchy) (cells : CellTable) where
  -- What some of the delays say is within what all say.
  filtered : (p : EdgeDelay → Bool) (ds : List EdgeDelay) (m : Target) → IsPart (merged_range h cells ds m) (merged_range h cells (filter p ds) m)
  filtered p [] m = part-same (merged_range h cells [] m)
  filtered p (d ∷ ds) m = by (p d) (filtered p ds m)
    where
      by : (b : Bool) → IsPart (merged_range h cells ds m) (merged_range h cells (filter p ds) m) →
          IsPart (merged_range h cells (d ∷ ds) m) (merged_range h cells (cond b (d ∷ filter p ds) (filter p ds)) m)
      by true rest = parts-both (said_by h cells d.delay) m (said h cells (without_edges ds)) (said h cells (without_edges (filter p ds))) rest
      by false rest = parts-more (said_by h cells d.delay) m (said h cells (without_edges ds)) (said h cells (without_edges (filter p ds))) rest

  pub at-inside : (ds : List EdgeDelay) (from to : Edges) (m : Target) → IsInside (merged_range h cells ds m) (range_at h cells ds from to m)
  at-inside ds from to m = inside-or (merged_range h cells ds m) (merged_range h cells (filter (speaks_of from to) ds) m) (filtered (speaks_of from to) ds m)

  at-part : (ds : List EdgeDelay) (name : List ℕ) (from to : Edges) (m : Target) → IsPart (merged_range h cells ds m) (range_at h cells (to_pin name ds) from to m)
  at-part ds name from to m =
      part-trans (merged_range h cells ds m) (merged_range h cells (to_pin name ds) m) (range_at h cells (to_pin name ds) from to m)
      (filtered _ ds m) (part-inside (merged_range h cells (to_pin name ds) m) (range_at h cells (to_pin name ds) from to m) (at-inside (to_pin name ds) from to m))

  stored-inside : (sense : SenseOf) (ds : List EdgeDelay) (from : Edges) (m : Target) (l : ℕ) (e : Edge) →
      IsInside (merged_range h cells ds m) (stored_range h cells sense ds from m l e)
  stored-inside sense ds from m l e =
      inside-or (merged_range h cells ds m) (widest (flat_map (pin_ranges h cells sense ds from m l e) (output_numbers (leaf_cell h cells l))))
      (part-widest (merged_range h cells ds m) (flat_map (pin_ranges h cells sense ds from m l e) (output_numbers (leaf_cell h cells l)))
      (parts-flat (merged_range h cells ds m) (pin_ranges h cells sense ds from m l e)
      (λ o. parts-map (merged_range h cells ds m) _ (λ y. at-part ds _ from _ m) _)
      (output_numbers (leaf_cell h cells l))))

  -- What is said of a latch or flop at an edge is within what is said of it.
  pub element-inside : (sense : SenseOf) (ds : List EdgeDelay) (e : Edge) (m : Target) → IsInside (merged_range h cells ds m) (element_range h cells sense ds e m)
  element-inside sense ds e (path_on l i o) = inside-same (merged_range h cells ds (path_on l i o))
  element-inside sense ds e (join_into b) = inside-same (merged_range h cells ds (join_into b))
  element-inside sense ds e (arcs_from b) = inside-same (merged_range h cells ds (arcs_from b))
  element-inside sense ds e (dq_of l) = stored-inside sense ds _ (dq_of l) l e
  element-inside sense ds e (cq_of l) = stored-inside sense ds any (cq_of l) l e
  element-inside sense ds e (setup_of l) = at-inside ds (only e) any (setup_of l)
  element-inside sense ds e (hold_of l) = at-inside ds (only e) any (hold_of l)
  element-inside sense ds e (width_of l) = inside-same (merged_range h cells ds (width_of l))
