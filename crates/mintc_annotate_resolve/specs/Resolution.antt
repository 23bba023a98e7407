-- What delays annotate.
use Rattle.std.specs.Prelude.{ℕ, ◌-◌, ◌==◌, ℤ, Bool, true, false, ◌&&◌, if◌then◌else◌, List, [], ◌∷◌, ◌++◌, map, length}
use Rattle.std.specs.Prelude.{take, filter, flat_map, slice_index_or, position, Option, Some, None, option_map}
use Rattle.std.specs.Prelude.{bytes_eq}
use Rattle.std.specs.List.{list_any, range_with_len}
use Rattle.std.specs.Int.{int_max, int_min}
use Rattle.std.specs.Option.{option_or}
use Rattle.mintc_text.specs.declared.refusals.Refusal.{Refusal}
use Rattle.mintc_text.specs.declared.refusals.Refusal.TheVariants as refusal
use Rattle.mintc_text.specs.declared.refusals.Role.TheVariants as role
use Rattle.mintc_cells.specs.declared.cell.Cell.{Cell}
use Rattle.mintc_cells.specs.declared.cell.Cell.TheVariants.{Gate, Latch, Flop, Clock}
use Rattle.mintc_flatten_hierarchy.specs.declared.hierarchy.Hierarchy.{Hierarchy}
use Rattle.mintc_sdf.specs.declared.delays.Delay.{Delay}
use Rattle.mintc_sdf.specs.declared.delays.Place.{Place}
use Rattle.mintc_sdf.specs.declared.delays.Place.TheVariants.{Top, Every, Path}
use Rattle.mintc_sdf.specs.declared.delays.Subject.{Subject}
use Rattle.mintc_sdf.specs.declared.delays.Subject.TheVariants as subject
use Rattle.mintc_cells.specs.Entries.{name_at}
use Rattle.mintc_flatten_hierarchy.specs.Shape.{CellTable}
use Rattle.mintc_annotate_resolve.specs.Pins.{leaf_at, leaf_cell, is_storage, all_leaves, pin_bit, input_pin}
use Rattle.mintc_annotate_resolve.specs.Pins.{output_pin, scope_path, leaf_path}
use Rattle.mintc_annotate_resolve.specs.declared.ports.PortBit.{PortBit}
use Rattle.mintc_annotate_resolve.specs.Ports.{place_of}

-- What a number may annotate: the arc of a gate, by its leaf and its two pins; the join into a pin, by the pin's
-- bit; the arcs that leave a bit of an output of the top; and of the latch or flop of a leaf its delays from data
-- and from its enable, its setup, its hold and its width.
pub data Target : Type 0 where
  path_on : ℕ → ℕ → ℕ → Target
  join_into : ℕ → Target
  arcs_from : ℕ → Target
  dq_of : ℕ → Target
  cq_of : ℕ → Target
  setup_of : ℕ → Target
  hold_of : ℕ → Target
  width_of : ℕ → Target

-- What a delay annotates, which may be nothing; or why it names nothing that it could annotate.
pub data Resolved : Type 0 where
  of : List Target → Resolved
  no_instance : Resolved
  no_arc : Resolved

-- ---- on a leaf
-- a path through leaf l, from its pin i to its pin o
abbrev pub of_path : ℕ → Cell → ℕ → ℕ → List Target
of_path l (Gate inputs outputs min max) i o = path_on l i o ∷ []
of_path l (Latch pin_d pin_g high outputs ignored setup hold has_hold dq_min dq_max cq_min cq_max has_cq width) i o = if
    i == 0 then dq_of l ∷ [] else (if i == 1 then cq_of l ∷ [] else [])
of_path l (Flop pin_d pin_clock rising outputs ignored setup hold has_hold cq_min cq_max width) i o = if i == 1
    then dq_of l ∷ [] else []
of_path l (Clock input output invert ignored) i o = []

-- a check at pin i of a cell, which annotates a latch or flop where it stands at the one pin that matters
abbrev pub of_check : Cell → ℕ → Target → ℕ → List Target
of_check cell wanted m i = if is_storage cell && (i == wanted) then m ∷ [] else []

-- targets, where the pins are there
abbrev pub pins_named : Option (List Target) → Resolved
pins_named None = no_arc
pins_named (Some ms) = of ms

-- the two pins, where both are there
abbrev pub both : Option ℕ → Option ℕ → Option (ℕ × ℕ)
both (Some i) (Some o) = Some (i, o)
both _ _ = None

-- what a subject annotates at leaf l
abbrev pub of_leaf : Hierarchy → CellTable → ℕ → Subject → Resolved
of_leaf h cells l (subject.Iopath from to) = pins_named
    (option_map (λ p. of_path l (leaf_cell h cells l) p.0 p.1)
    (both (input_pin (leaf_cell h cells l) from) (output_pin (leaf_cell h cells l) to)))
of_leaf h cells l (subject.Port pin) = pins_named
    (option_map (λ i. join_into (pin_bit h l i) ∷ []) (input_pin (leaf_cell h cells l) pin))
of_leaf h cells l (subject.Setup pin) = pins_named
    (option_map (of_check (leaf_cell h cells l) 0 (setup_of l)) (input_pin (leaf_cell h cells l) pin))
of_leaf h cells l (subject.Hold pin) = pins_named
    (option_map (of_check (leaf_cell h cells l) 0 (hold_of l)) (input_pin (leaf_cell h cells l) pin))
of_leaf h cells l (subject.Width pin) = pins_named
    (option_map (of_check (leaf_cell h cells l) 1 (width_of l)) (input_pin (leaf_cell h cells l) pin))
of_leaf h cells l (subject.Interconnect to) = no_instance

-- ---- by paths
abbrev pub same_path : List (List ℕ) → List (List ℕ) → Bool
same_path [] [] = true
same_path (x ∷ xs) (y ∷ ys) = bytes_eq x y && same_path xs ys
same_path _ _ = false

-- the leaf of a path; and whether a path is that of a scope
abbrev pub leaf_called : Hierarchy → List (List ℕ) → Option ℕ
leaf_called h path = position (λ l. same_path (leaf_path h l) path) (all_leaves h)

-- whether a path is that of a scope
abbrev pub is_scope : Hierarchy → List (List ℕ) → Bool
is_scope h path = list_any (λ s. same_path (scope_path h s) path) (range_with_len 0 (length h.scopes))

-- the end of an interconnect: a bit of an output of the top, or an input pin of a leaf
abbrev pub at_port : Option PortBit → Resolved
at_port None = no_instance
at_port (Some p) = if p.output then of (arcs_from p.bit ∷ []) else no_instance

-- the join into a bit, where that is there
abbrev pub into : Option ℕ → Resolved
into None = no_instance
into (Some b) = of (join_into b ∷ [])

-- the join into the input pin of a name of a leaf
abbrev pub at_pin : Hierarchy → CellTable → Option ℕ → List ℕ → Resolved
at_pin h cells None name = no_instance
at_pin h cells (Some l) name = into (option_map (pin_bit h l) (input_pin (leaf_cell h cells l) name))

-- the end of an interconnect by its path: a port of the top, or a pin of a leaf
abbrev pub of_interconnect : Hierarchy → CellTable → List (List ℕ) → Resolved
of_interconnect h cells [] = no_instance
of_interconnect h cells (name ∷ []) = at_port (place_of h name)
of_interconnect h cells path = at_pin h cells (leaf_called h (take (length path - 1) path))
    (slice_index_or path (length path - 1) [])

-- at a leaf, or at a scope, where an interconnect alone may stand
abbrev pub of_instance : Hierarchy → CellTable → List (List ℕ) → Subject → Option ℕ → Resolved
of_instance h cells path (subject.Interconnect to) (Some l) = of_interconnect h cells (path ++ to)
of_instance h cells path (subject.Interconnect to) None = if is_scope h path then of_interconnect h cells (path ++ to)
    else no_instance
of_instance h cells path other (Some l) = of_leaf h cells l other
of_instance h cells path other None = no_instance

-- ---- on every leaf of a cell type
abbrev pub leaves_of : Hierarchy → CellTable → List ℕ → List ℕ
leaves_of h cells celltype = filter (λ l. bytes_eq (name_at cells (leaf_at h l).cell) celltype) (all_leaves h)

-- the targets of both, or the first fault
abbrev pub together : Resolved → Resolved → Resolved
together (of ms) (of ns) = of (ms ++ ns)
together (of ms) fault = fault
together fault other = fault

-- what a subject annotates at some leaves
abbrev pub of_each : Hierarchy → CellTable → Subject → List ℕ → Resolved
of_each h cells s [] = of []
of_each h cells s (l ∷ ls) = together (of_leaf h cells l s) (of_each h cells s ls)

-- what a subject annotates at every leaf of a cell type
abbrev pub of_every : Hierarchy → CellTable → List ℕ → Subject → Resolved
of_every h cells celltype (subject.Interconnect to) = no_instance
of_every h cells celltype other = of_each h cells other (leaves_of h cells celltype)

-- ---- what a delay annotates
abbrev pub of_place : Hierarchy → CellTable → Delay → Place → Resolved
of_place h cells d Top = of_instance h cells [] d.subject None
of_place h cells d Every = of_every h cells d.celltype d.subject
of_place h cells d (Path path) = of_instance h cells path d.subject (leaf_called h path)

-- what a delay annotates
abbrev pub resolved : Hierarchy → CellTable → Delay → Resolved
resolved h cells d = of_place h cells d d.place

-- the refusal of a delay of an entry
abbrev pub refusal_of : ℕ → Resolved → Option Refusal
refusal_of entry (of ms) = None
refusal_of entry no_instance = Some (refusal.NoInstance role.Delays entry)
refusal_of entry no_arc = Some (refusal.NoArc entry)

-- the refusal of the first delay that has one
abbrev pub first_refusal : Hierarchy → CellTable → List Delay → Option Refusal
first_refusal h cells [] = None
first_refusal h cells (d ∷ ds) = option_or (refusal_of d.entry (resolved h cells d)) (first_refusal h cells ds)

-- ---- all that delays say: a target, and the least and the greatest number of a delay that annotates it

-- a target, with the least and the greatest number of a delay that annotates it
pub record Said : Type 0 where
  pub target : Target
  pub least : ℤ
  pub greatest : ℤ

-- the targets of what is resolved
abbrev pub targets : Resolved → List Target
targets (of ms) = ms
targets _ = []

-- what a delay says
abbrev pub said_by : Hierarchy → CellTable → Delay → List Said
said_by h cells d = map (λ m. record { target = m; least = d.least; greatest = d.greatest })
    (targets (resolved h cells d))

-- what some delays say
abbrev pub said : Hierarchy → CellTable → List Delay → List Said
said h cells ds = flat_map (said_by h cells) ds

-- whether two targets are one
abbrev pub same_target : Target → Target → Bool
same_target (path_on l i o) (path_on m j p) = (l == m) && ((i == j) && (o == p))
same_target (join_into b) (join_into c) = b == c
same_target (arcs_from b) (arcs_from c) = b == c
same_target (dq_of l) (dq_of m) = l == m
same_target (cq_of l) (cq_of m) = l == m
same_target (setup_of l) (setup_of m) = l == m
same_target (hold_of l) (hold_of m) = l == m
same_target (width_of l) (width_of m) = l == m
same_target _ _ = false

-- The least and the greatest of all numbers that annotate a target, where any do.
abbrev pub widened : ℤ → ℤ → Option (ℤ × ℤ) → ℤ × ℤ
widened least greatest None = (least, greatest)
widened least greatest (Some r) = (int_min least r.0, int_max greatest r.1)

-- the range of all that is said of a target
abbrev pub range_of : List Said → Target → Option (ℤ × ℤ)
range_of [] m = None
range_of (s ∷ ss) m = if same_target s.target m then Some (widened s.least s.greatest (range_of ss m))
    else range_of ss m
