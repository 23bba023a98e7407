-- What delays say at an edge is within the limits of numbers.
use Rattle.std.proofs.Common.{◌≡◌, ℕ, ℤ, Bool, if◌then◌else◌, List, [], ◌∷◌, ◌++◌, map, filter, flat_map, slice_index_or, All, Option, Some, None, arith, refl, sym, subst}
use Rattle.std.proofs.lemmas.Int.{ints, clamps, by_lt_z, int_min_is, int_max_is}
use Rattle.std.proofs.lemmas.List.Elements.{All-nil, All-cons, All-head, All-tail, All-filter}
use Rattle.std.specs.Int.{int_min, int_max}
use Rattle.std.specs.Option.{option_or}
use Rattle.mintc_flatten_hierarchy.specs.declared.hierarchy.Hierarchy.{Hierarchy}
use Rattle.mintc_flatten_hierarchy.specs.Shape.{CellTable}
use Rattle.mintc_sdf.specs.Laws.{IsWithin}
use Rattle.mintc_sdf_edges.specs.declared.delays.EdgeDelay.{EdgeDelay}
use Rattle.mintc_sdf_edges.specs.declared.delays.Edges.{Edges}
use Rattle.mintc_annotate_resolve.proofs.SharedRangeLimits.{IsOf, IsRange, all_said, range_in}
use Rattle.mintc_annotate.proofs.SharedElementLimits.{IsFit}
use Rattle.mintc_cells.specs.Rules.{pins}
use Rattle.mintc_annotate.specs.Made.{is_latch}
use Rattle.mintc_annotate_resolve.specs.Pins.{leaf_at, leaf_cell, output_numbers}
use Rattle.mintc_annotate_resolve.specs.Resolution.{Target, path_on, join_into, arcs_from, dq_of, cq_of, setup_of, hold_of, width_of, said}
use Rattle.mintc_edges.specs.declared.edge.Edge.{Edge}
use Rattle.mintc_edges.specs.Edges.{only, any, ends_of}
use Rattle.mintc_edges.specs.Numbers.{SenseOf, without_edges, merged_range, range_at, speaks_of, leads_to, pin_ranges, stored_range, element_range, wider, widest}

fit-none : (m : Target) → IsFit m None
fit-none m r e = absurd (cc)

fit-or : (m : Target) (a b : Option (ℤ × ℤ)) → IsFit m a → IsFit m b → IsFit m (option_or a b)
fit-or m None b h k = k
fit-or m (Some x) b h k = h

either-min : (P : ℤ → Type 0) (x y : ℤ) → P x → P y → P (int_min x y)
either-min P x y h k = by_lt_z x y
    (λ less. let is : int_min x y ≡ x = omega (arith, ints, int_min_is x y, less) in subst P (sym is) h)
    (λ more. let is : int_min x y ≡ y = omega (arith, ints, int_min_is x y, more) in subst P (sym is) k)

either-max : (P : ℤ → Type 0) (x y : ℤ) → P x → P y → P (int_max x y)
either-max P x y h k = by_lt_z x y
    (λ less. let is : int_max x y ≡ y = omega (arith, ints, int_max_is x y, less) in subst P (sym is) k)
    (λ more. let is : int_max x y ≡ x = omega (arith, ints, int_max_is x y, more) in subst P (sym is) h)

both-fit : (m : Target) (x y : ℤ × ℤ) → IsRange m x → IsRange m y → IsRange m (int_min x.0 y.0, int_max x.1 y.1)
both-fit m x y h k = record {
  low = either-min (IsOf m) x.0 y.0 h.low k.low;
  high = either-max (IsOf m) x.1 y.1 h.high k.high;
  ordered = (let a = h.ordered in let b = k.ordered in omega (arith, ints, clamps, a, b));
}

fit-wider : (m : Target) (a b : Option (ℤ × ℤ)) → IsFit m a → IsFit m b → IsFit m (wider a b)
fit-wider m None b h k = k
fit-wider m (Some x) None h k = h
fit-wider m (Some x) (Some y) h k = λ r e. let is : (int_min x.0 y.0, int_max x.1 y.1) ≡ r = cc in subst (IsRange m) is (both-fit m x y (h x refl) (k y refl))

-- all of some
abbrev AreFit : Target → List (Option (ℤ × ℤ)) → Type 0
AreFit m [] = Unit {0}
AreFit m (r ∷ rs) = IsFit m r × AreFit m rs

fits-append : (m : Target) (xs ys : List (Option (ℤ × ℤ))) → AreFit m xs → AreFit m ys → AreFit m (xs ++ ys)
fits-append m [] ys h k = k
fits-append m (x ∷ xs) ys h k = (h.0, fits-append m xs ys h.1 k)

fits-map : {X : Type 0} (m : Target) (f : X → Option (ℤ × ℤ)) → ((x : X) → IsFit m (f x)) → (xs : List X) → AreFit m (map f xs)
fits-map m f h [] = tt
fits-map m f h (x ∷ xs) = (h x, fits-map m f h xs)

fits-flat : {X : Type 0} (m : Target) (f : X → List (Option (ℤ × ℤ))) → ((x : X) → AreFit m (f x)) → (xs : List X) → AreFit m (flat_map f xs)
fits-flat m f h [] = tt
fits-flat m f h (x ∷ xs) = fits-append m (f x) (flat_map f xs) (h x) (fits-flat m f h xs)

fit-widest : (m : Target) (rs : List (Option (ℤ × ℤ))) → AreFit m rs → IsFit m (widest rs)
fit-widest m [] h = fit-none m
fit-widest m (r ∷ rs) h = fit-wider m r (widest rs) h.0 (fit-widest m rs h.1)

-- delays whose numbers are in order and in range
abbrev pub AreSound : List EdgeDelay → Type 0
AreSound ds = All (λ d. IsWithin d.delay) ds

pub sound-delays : (ds : List EdgeDelay) → AreSound ds → All IsWithin (without_edges ds)
sound-delays [] all = All-nil IsWithin
sound-delays (d ∷ ds) all = All-cons IsWithin d.delay (without_edges ds) (All-head (λ d. IsWithin d.delay) d ds all) (sound-delays ds (All-tail (λ d. IsWithin d.delay) d ds all))

module _ (h : Hierarchy) (cells : CellTable) where
  pub merged-fit : (ds : List EdgeDelay) (m : Target) → AreSound ds → IsFit m (merged_range h cells ds m)
  merged-fit ds m sound r e = range_in (said h cells (without_edges ds)) m r (all_said h cells (without_edges ds) (sound-delays ds sound)) e

  filtered-fit : (p : EdgeDelay → Bool) (ds : List EdgeDelay) (m : Target) → AreSound ds → IsFit m (merged_range h cells (filter p ds) m)
  filtered-fit p ds m sound = merged-fit (filter p ds) m (All-filter p (λ d. IsWithin d.delay) ds sound)

  pub at-fit : (ds : List EdgeDelay) (from to : Edges) (m : Target) → AreSound ds → IsFit m (range_at h cells ds from to m)
  at-fit ds from to m sound = fit-or m (merged_range h cells (filter (speaks_of from to) ds) m) (merged_range h cells ds m) (filtered-fit (speaks_of from to) ds m sound) (merged-fit ds m sound)

  -- the delays of leaf l to its output pin o
  abbrev leads : ℕ → ℕ → EdgeDelay → Bool
  leads l o d = leads_to (slice_index_or (pins (leaf_cell h cells l)) o []) d.delay.subject

  abbrev to-output : ℕ → ℕ → List EdgeDelay → List EdgeDelay
  to-output l o ds = filter (leads l o) ds

  stored-fit : (sense : SenseOf) (ds : List EdgeDelay) (from : Edges) (m : Target) (l : ℕ) (e : Edge) → AreSound ds → IsFit m (stored_range h cells sense ds from m l e)
  stored-fit sense ds from m l e sound =
      fit-or m (widest (flat_map (pin_ranges h cells sense ds from m l e) (output_numbers (leaf_cell h cells l)))) (merged_range h cells ds m)
      (fit-widest m (flat_map (pin_ranges h cells sense ds from m l e) (output_numbers (leaf_cell h cells l)))
      (fits-flat m (pin_ranges h cells sense ds from m l e) (λ o. fits-map m (λ y. range_at h cells (to-output l o ds) from (only y) m) (λ y. at-fit (to-output l o ds) from (only y) m (All-filter (leads l o) (λ d. IsWithin d.delay) ds sound)) (ends_of (sense (leaf_at h l).cell 0 o) e)) (output_numbers (leaf_cell h cells l))))
      (merged-fit ds m sound)

  -- what is said of a latch or flop at an edge
  pub element-fit : (sense : SenseOf) (ds : List EdgeDelay) (e : Edge) (m : Target) → AreSound ds → IsFit m (element_range h cells sense ds e m)
  element-fit sense ds e (path_on l i o) sound = merged-fit ds (path_on l i o) sound
  element-fit sense ds e (join_into b) sound = merged-fit ds (join_into b) sound
  element-fit sense ds e (arcs_from b) sound = merged-fit ds (arcs_from b) sound
  element-fit sense ds e (dq_of l) sound = stored-fit sense ds (if is_latch (leaf_cell h cells l) then only e else any) (dq_of l) l e sound
  element-fit sense ds e (cq_of l) sound = stored-fit sense ds any (cq_of l) l e sound
  element-fit sense ds e (setup_of l) sound = at-fit ds (only e) any (setup_of l) sound
  element-fit sense ds e (hold_of l) sound = at-fit ds (only e) any (hold_of l) sound
  element-fit sense ds e (width_of l) sound = merged-fit ds (width_of l) sound
