-- Latches and flops by the table are those of the design.
use Rattle.std.proofs.Common.{◌≡◌, ℕ, ◌+◌, ℤ, Bool, true, false, cond, List, [], ◌∷◌, map, filter, flat_map, All, Option, None, refl, sym, ap, ◌∙◌, slice_index_or}
use Rattle.std.specs.List.{range_with_len}
use Rattle.std.specs.Option.{option_or}
use Rattle.std.proofs.lemmas.List.Elements.{All-filter}
use Rattle.mintc_cells.specs.declared.cell.Cell.{Cell}
use Rattle.mintc_cells.specs.declared.cell.Cell.TheVariants.{Latch, Flop}
use Rattle.mintc_cells.specs.Rules.{pins}
use Rattle.mintc_flatten_hierarchy.specs.declared.hierarchy.Hierarchy.{Hierarchy}
use Rattle.mintc_flatten_hierarchy.specs.Shape.{CellTable}
use Rattle.mintc_sdf_edges.specs.declared.delays.EdgeDelay.{EdgeDelay}
use Rattle.mintc_sdf_edges.specs.declared.delays.Edges.{Edges}
use Rattle.mintc_senses.specs.Senses.{sense_at}
use Rattle.mintc_senses_expressions.specs.declared.transitions.Transitions.{Transitions}
use Rattle.mintc_timing.specs.declared.parts.Element.{Element}
use Rattle.mintc_annotate_resolve.specs.Pins.{leaf_at, leaf_cell, leaf_path, dotted, is_storage, input_count, output_count, output_numbers}
use Rattle.mintc_annotate_resolve.specs.Resolution.{Target, dq_of, cq_of, setup_of, hold_of, width_of}
use Rattle.mintc_annotate.specs.Made.{RangeOf, is_latch, is_flop, element_of}
use Rattle.mintc_edges.specs.declared.edge.Edge.{Edge}
use Rattle.mintc_edges.specs.declared.edge.Edge.TheVariants.{Rise, Fall}
use Rattle.mintc_edges.specs.declared.spreads.Spread.{Spread}
use Rattle.mintc_edges.specs.declared.told.Told.{Told}
use Rattle.mintc_edges.specs.Edges.{each_edge, ends_of, edge_name, only, any}
use Rattle.mintc_edges.specs.Numbers.{leads_to, SenseOf, sense_of, merged_range, range_at, pin_ranges, stored_range, element_range, speaks_of, wider, widest}
use Rattle.mintc_edges.specs.Spreads.{all_of, all_said, said_to, at_one, begun}
use Rattle.mintc_edges.specs.Told.{AreTold, HasEnds, to_output, path_told, told_at}
use Rattle.mintc_edges.specs.Apart.{named_at, no_later_than, merged_element, stored_element}
use Rattle.mintc_edges.specs.Kept.{leaf_kept}
use Rattle.mintc_annotate.specs.Said.{element_said}
use Rattle.mintc_edges.specs.Stored.{output_told, merged_paths_kept, path_said, along_kept, paths_kept, merged_said_kept, said_kept, stored_elements_kept}
use Rattle.mintc_edges.proofs.ArcLaws.{map-same, edges-same, sense-same, outputs-shifted}
use Rattle.mintc_edges.proofs.OutputLaws.{outputs-whole}
use Rattle.mintc_edges.proofs.SilentLaws.{says-nothing}
use Rattle.mintc_edges.proofs.StoredLaws.{widest-lists}
use Rattle.mintc_sdf_edges.specs.Laws.{HasEdges}
use Rattle.mintc_edges.proofs.WiderLaws.{wider-same, ends-whole, at-starts, starts-whole, at-transition, spread-whole}
use Rattle.mintc_edges.specs.Matters.{end_of}
use Rattle.mintc_annotate_resolve.specs.Resolution.{said_by, range_of}

-- what lists of ranges say, one after another
widest-flat : {X : Type 0} (g : X → List (Option (ℤ × ℤ))) (xs : List X) → widest (map (λ x. widest (g x)) xs) ≡ widest (flat_map g xs)
widest-flat g [] = refl
widest-flat g (x ∷ xs) = ap (wider (widest (g x))) (widest-flat g xs) ∙ sym (widest-lists (g x) (flat_map g xs))

map-flat : {X Y : Type 0} (f : X → Y) (xs : List X) → flat_map (λ x. f x ∷ []) xs ≡ map f xs
map-flat f [] = refl
map-flat f (x ∷ xs) = ap (λ l. f x ∷ l) (map-flat f xs)

outputs-mapped : {X : Type 0} (f g : ℕ → X) (k n : ℕ) → ((i : ℕ) → g i ≡ f (k + i)) → map g (range_with_len 0 n) ≡ map f (range_with_len k n)
outputs-mapped f g k n same =
    sym (map-flat g (range_with_len 0 n)) ∙ outputs-shifted (λ i. f i ∷ []) (λ i. g i ∷ []) k n (λ i. ap (λ x. x ∷ []) (same i)) ∙ map-flat f (range_with_len k n)

-- paths whose first edge isn't read
module _ (h : Hierarchy) (cells : CellTable) (ds : List EdgeDelay) (edges : All HasEdges ds) (m : Target) (x : Spread) (ends : (i : Edge) → HasEnds h cells ds m (begun x i)) where
  to-whole : all_said x ≡ merged_range h cells ds m
  to-whole = ap (λ v. wider v (all_of x.fall)) (ends-whole h cells ds edges m x.rise (ends Rise)) ∙ ap (wider (merged_range h cells ds m)) (ends-whole h cells ds edges m x.fall (ends Fall)) ∙ wider-same (merged_range h cells ds m)

  to-edge : (y : Edge) → said_to x y ≡ range_at h cells ds any (only y) m
  to-edge y =
      ap (λ v. option_or (wider v (at_one x.fall y)) (all_said x)) (ends Rise y) ∙ ap (λ v. option_or (wider (at-end y) v) (all_said x)) (ends Fall y)
      ∙ ap (λ v. option_or v (all_said x)) (wider-same (at-end y)) ∙ ap (option_or (at-end y)) to-whole
    where
      at-end : Edge → Option (ℤ × ℤ)
      at-end y = merged_range h cells (filter (speaks_of any (only y)) ds) m

module _ (h : Hierarchy) (cells : CellTable) (ds : List EdgeDelay) (edges : All HasEdges ds) (senses : List (List (List Transitions))) (told : Told) (are : AreTold h cells ds told) (l : ℕ) where
  abbrev k : ℕ
  k = input_count (leaf_cell h cells l)

  abbrev c : ℕ
  c = (leaf_at h l).cell

  abbrev sense : SenseOf
  sense = sense_of senses cells

  to-edges : (o : ℕ) → All HasEdges (to_output h cells l o ds)
  to-edges o = All-filter (λ d. leads_to (slice_index_or (pins (leaf_cell h cells l)) o []) d.delay.subject) HasEdges ds edges

  -- the paths from a pin, of which what is told of each output is what delays to that output say
  module _ (from : ℕ) (m : Target) (first : Edge → Edges) (quiet : (d : EdgeDelay) → end_of h cells l d.delay.subject ≡ None → range_of (said_by h cells d.delay) m ≡ None)
      (tells : (j : ℕ) (e y : Edge) → path_said (path_told told (l, from, k + j)) from e y ≡ range_at h cells (to_output h cells l (k + j) ds) (first e) (only y) m)
      (tells-all : (j : ℕ) → all_said (path_told told (l, from, k + j)) ≡ merged_range h cells (to_output h cells l (k + j) ds) m) where
    merged-same : merged_paths_kept told (leaf_kept h cells 0 l) from ≡ merged_range h cells ds m
    merged-same =
        ap widest (map-same (λ j. all_said (output_told told (leaf_kept h cells 0 l) from j)) (λ j. merged_range h cells (to_output h cells l (k + j) ds) m) (range_with_len 0 (output_count (leaf_cell h cells l))) tells-all)
        ∙ outputs-whole h cells l m quiet ds

    along-same : (e : Edge) (j : ℕ) → along_kept told senses (leaf_kept h cells 0 l) from e j ≡ widest (pin_ranges h cells sense ds (first e) m l e (k + j))
    along-same e j =
        ap widest (map-same (path_said (output_told told (leaf_kept h cells 0 l) from j) from e) (λ y. range_at h cells (to_output h cells l (k + j) ds) (first e) (only y) m) (ends_of (sense_at senses c 0 j) e) (tells j e))
        ∙ ap (λ s. widest (map (λ y. range_at h cells (to_output h cells l (k + j) ds) (first e) (only y) m) (ends_of s e))) (sense-same senses cells c 0 k j refl)

    paths-same : (e : Edge) → paths_kept told senses (leaf_kept h cells 0 l) from e ≡ stored_range h cells sense ds (first e) m l e
    paths-same e =
        let listed = outputs-mapped (λ o. widest (pin_ranges h cells sense ds (first e) m l e o)) (along_kept told senses (leaf_kept h cells 0 l) from e) k (output_count (leaf_cell h cells l)) (along-same e) in
        ap (λ v. option_or (widest v) (merged_paths_kept told (leaf_kept h cells 0 l) from)) listed
        ∙ ap (λ v. option_or v (merged_paths_kept told (leaf_kept h cells 0 l) from)) (widest-flat (pin_ranges h cells sense ds (first e) m l e) (output_numbers (leaf_cell h cells l)))
        ∙ ap (option_or (widest (flat_map (pin_ranges h cells sense ds (first e) m l e) (output_numbers (leaf_cell h cells l))))) merged-same

  quiet-dq : (d : EdgeDelay) → end_of h cells l d.delay.subject ≡ None → range_of (said_by h cells d.delay) (dq_of l) ≡ None
  quiet-dq d none = (says-nothing h cells l d.delay none).0

  quiet-cq : (d : EdgeDelay) → end_of h cells l d.delay.subject ≡ None → range_of (said_by h cells d.delay) (cq_of l) ≡ None
  quiet-cq d none = (says-nothing h cells l d.delay none).1

  module _ (latch : is_latch (leaf_cell h cells l) ≡ true) where
    data-tells : (j : ℕ) (e y : Edge) → path_said (path_told told (l, 0, k + j)) 0 e y ≡ range_at h cells (to_output h cells l (k + j) ds) (only e) (only y) (dq_of l)
    data-tells j e y = at-transition h cells (to_output h cells l (k + j) ds) (to-edges (k + j)) (dq_of l) (path_told told (l, 0, k + j)) e y (are.from_data l (k + j) latch)

    data-tells-all : (j : ℕ) → all_said (path_told told (l, 0, k + j)) ≡ merged_range h cells (to_output h cells l (k + j) ds) (dq_of l)
    data-tells-all j = spread-whole h cells (to_output h cells l (k + j) ds) (to-edges (k + j)) (dq_of l) (path_told told (l, 0, k + j)) (are.from_data l (k + j) latch)

    enable-tells : (j : ℕ) (e y : Edge) → path_said (path_told told (l, 1, k + j)) 1 e y ≡ range_at h cells (to_output h cells l (k + j) ds) any (only y) (cq_of l)
    enable-tells j e y = to-edge h cells (to_output h cells l (k + j) ds) (to-edges (k + j)) (cq_of l) (path_told told (l, 1, k + j)) (are.from_enable l (k + j) latch) y

    enable-tells-all : (j : ℕ) → all_said (path_told told (l, 1, k + j)) ≡ merged_range h cells (to_output h cells l (k + j) ds) (cq_of l)
    enable-tells-all j = to-whole h cells (to_output h cells l (k + j) ds) (to-edges (k + j)) (cq_of l) (path_told told (l, 1, k + j)) (are.from_enable l (k + j) latch)

  module _ (flop : is_flop (leaf_cell h cells l) ≡ true) where
    clock-tells : (j : ℕ) (e y : Edge) → path_said (path_told told (l, 1, k + j)) 1 e y ≡ range_at h cells (to_output h cells l (k + j) ds) any (only y) (dq_of l)
    clock-tells j e y = to-edge h cells (to_output h cells l (k + j) ds) (to-edges (k + j)) (dq_of l) (path_told told (l, 1, k + j)) (are.from_clock l (k + j) flop) y

    clock-tells-all : (j : ℕ) → all_said (path_told told (l, 1, k + j)) ≡ merged_range h cells (to_output h cells l (k + j) ds) (dq_of l)
    clock-tells-all j = to-whole h cells (to_output h cells l (k + j) ds) (to-edges (k + j)) (dq_of l) (path_told told (l, 1, k + j)) (are.from_clock l (k + j) flop)

  setup-whole : all_of (told_at told.setups.items l) ≡ merged_range h cells ds (setup_of l)
  setup-whole = starts-whole h cells ds edges (setup_of l) (told_at told.setups.items l) (are.setups l)

  hold-whole : all_of (told_at told.holds.items l) ≡ merged_range h cells ds (hold_of l)
  hold-whole = starts-whole h cells ds edges (hold_of l) (told_at told.holds.items l) (are.holds l)

  width-whole : all_of (told_at told.widths.items l) ≡ merged_range h cells ds (width_of l)
  width-whole = ends-whole h cells ds edges (width_of l) (told_at told.widths.items l) (are.widths l)

  merged-by : (cell : Cell) → leaf_cell h cells l ≡ cell → is_storage cell ≡ true → (name : List ℕ) (phase : ℕ) →
      element_said (merged_said_kept told (leaf_kept h cells 0 l) cell) name phase cell ≡ element_of (merged_range h cells ds) name l phase cell
  merged-by (Latch a b c2 d e2 f g i j k2 m n o p) is stores name phase =
      rw (
        setup-whole,
        hold-whole,
        width-whole,
        merged-same 0 (dq_of l) only quiet-dq (data-tells (ap is_latch is)) (data-tells-all (ap is_latch is)),
        merged-same 1 (cq_of l) (λ e. any) quiet-cq (enable-tells (ap is_latch is)) (enable-tells-all (ap is_latch is)),
      ) refl
  merged-by (Flop a b c2 d e2 f g i j k2 m) is stores name phase =
      rw (setup-whole, hold-whole, width-whole, merged-same 1 (dq_of l) (λ e. any) quiet-dq (clock-tells (ap is_flop is)) (clock-tells-all (ap is_flop is))) refl
  merged-by _ is stores name phase = absurd (cc)

  begins : (e : Edge) (b : Bool) → is_latch (leaf_cell h cells l) ≡ b → stored_range h cells sense ds (cond b (only e) any) (dq_of l) l e ≡ element_range h cells sense ds e (dq_of l)
  begins e b is = ap (λ (x : Bool). stored_range h cells sense ds (cond x (only e) any) (dq_of l) l e) (sym is)

  edge-by : (e : Edge) (cell : Cell) → leaf_cell h cells l ≡ cell → is_storage cell ≡ true → (name : List ℕ) (phase : ℕ) →
      element_said (said_kept told senses (leaf_kept h cells 0 l) cell e) name phase cell ≡ element_of (element_range h cells sense ds e) name l phase cell
  edge-by e (Latch a b c2 d e2 f g i j k2 m n o p) is stores name phase =
      let dq : paths_kept told senses (leaf_kept h cells 0 l) 0 e ≡ element_range h cells sense ds e (dq_of l) =
      paths-same 0 (dq_of l) only quiet-dq (data-tells (ap is_latch is)) (data-tells-all (ap is_latch is)) e ∙ begins e true (ap is_latch is) in
      rw (
        at-starts h cells ds edges (setup_of l) (told_at told.setups.items l) e (are.setups l),
        at-starts h cells ds edges (hold_of l) (told_at told.holds.items l) e (are.holds l),
        width-whole,
        dq,
        paths-same 1 (cq_of l) (λ y. any) quiet-cq (enable-tells (ap is_latch is)) (enable-tells-all (ap is_latch is)) e,
      ) refl
  edge-by e (Flop a b c2 d e2 f g i j k2 m) is stores name phase =
      let dq : paths_kept told senses (leaf_kept h cells 0 l) 1 e ≡ element_range h cells sense ds e (dq_of l) =
      paths-same 1 (dq_of l) (λ y. any) quiet-dq (clock-tells (ap is_flop is)) (clock-tells-all (ap is_flop is)) e ∙ begins e false (ap is_latch is) in
      rw (
        at-starts h cells ds edges (setup_of l) (told_at told.setups.items l) e (are.setups l),
        at-starts h cells ds edges (hold_of l) (told_at told.holds.items l) e (are.holds l),
        width-whole,
        dq,
      ) refl
  edge-by e _ is stores name phase = absurd (cc)

-- a name at an edge is all that changes
renamed : (e : Edge) (r : RangeOf) (merged : Element) (name : List ℕ) (l phase : ℕ) (cell : Cell) → is_storage cell ≡ true →
    no_later_than merged (element_of r (edge_name name e) l phase cell) ≡ named_at e (no_later_than merged (element_of r name l phase cell))
renamed e r merged name l phase (Latch a b c d e2 f g i j k m n o p) stores = refl
renamed e r merged name l phase (Flop a b c d e2 f g i j k m) stores = refl
renamed e r merged name l phase _ stores = absurd (cc)

-- the two elements of a latch or flop
pub stored-same : (h : Hierarchy) (cells : CellTable) (ds : List EdgeDelay) → All HasEdges ds → (senses : List (List (List Transitions))) (told : Told) → AreTold h cells ds told → (l phase : ℕ) → is_storage (leaf_cell h cells l) ≡ true →
    stored_elements_kept told senses (leaf_kept h cells 0 l) (dotted (leaf_path h l)) phase (leaf_cell h cells l) ≡ each_edge (stored_element h cells (sense_of senses cells) ds l phase)
stored-same h cells ds edges senses told are l phase stores =
    edges-same (λ e. no_later_than (element_said (merged_said_kept told (leaf_kept h cells 0 l) (leaf_cell h cells l)) (dotted (leaf_path h l)) phase (leaf_cell h cells l)) (element_said (said_kept told senses (leaf_kept h cells 0 l) (leaf_cell h cells l) e) (edge_name (dotted (leaf_path h l)) e) phase (leaf_cell h cells l)))
    (stored_element h cells (sense_of senses cells) ds l phase)
    (λ e.
    ap (λ x. no_later_than x (element_said (said_kept told senses (leaf_kept h cells 0 l) (leaf_cell h cells l) e) (edge_name (dotted (leaf_path h l)) e) phase (leaf_cell h cells l)))
    (merged-by h cells ds edges senses told are l (leaf_cell h cells l) refl stores (dotted (leaf_path h l)) phase)
    ∙ ap (no_later_than (merged_element h cells ds l phase)) (edge-by h cells ds edges senses told are l e (leaf_cell h cells l) refl stores (edge_name (dotted (leaf_path h l)) e) phase)
    ∙ renamed e (element_range h cells (sense_of senses cells) ds e) (merged_element h cells ds l phase) (dotted (leaf_path h l)) l phase (leaf_cell h cells l) stores)
