-- What a subject annotates is apt for it.
use Rattle.std.proofs.Common.{◌≡◌, ℕ, ◌==◌, ◌-◌, Bool, true, false, cond, ◌&&◌, List, [], ◌∷◌, ◌++◌, length, take, All, slice_index_or, Option, Some, None, option_map, refl, ap}
use Rattle.std.proofs.lemmas.List.Elements.{All-nil, All-cons}
use Rattle.mintc_cells.specs.declared.cell.Cell.{Cell}
use Rattle.mintc_cells.specs.declared.cell.Cell.TheVariants.{Gate, Latch, Flop, Clock}
use Rattle.mintc_flatten_hierarchy.specs.declared.hierarchy.Hierarchy.{Hierarchy}
use Rattle.mintc_flatten_hierarchy.specs.Shape.{CellTable}
use Rattle.mintc_sdf.specs.declared.delays.Subject.{Subject}
use Rattle.mintc_sdf.specs.declared.delays.Subject.TheVariants as subject
use Rattle.mintc_annotate_resolve.specs.declared.ports.PortBit.{PortBit}
use Rattle.mintc_annotate_resolve.specs.Pins.{leaf_cell, is_storage, pin_bit, input_pin, output_pin}
use Rattle.mintc_annotate_resolve.specs.Ports.{place_of}
use Rattle.mintc_annotate_resolve.specs.Resolution.{Target, path_on, join_into, arcs_from, dq_of, cq_of, setup_of, hold_of, width_of, of, no_instance, of_path, of_check, both, pins_named, of_leaf, leaf_called, is_scope, at_port, into, at_pin, of_interconnect, of_instance, targets}
use Rattle.mintc_annotate.specs.Made.{is_latch}
use Rattle.mintc_edges.specs.Claims.{IsApt, HasEnd}

module _ (h : Hierarchy) (cells : CellTable) (s : Subject) where
  abbrev pub AreApt : List Target → Type 0
  AreApt ts = All (IsApt h cells s) ts

  nothing : AreApt []
  nothing = All-nil (IsApt h cells s)

  one : (t : Target) → IsApt h cells s t → AreApt (t ∷ [])
  one t apt = All-cons (IsApt h cells s) t [] apt nothing

  one-if : (b : Bool) (t : Target) → IsApt h cells s t → AreApt (cond b (t ∷ []) [])
  one-if true t apt = one t apt
  one-if false t apt = nothing

  apt-path : (k : ℕ) (cell : Cell) (i o : ℕ) → leaf_cell h cells k ≡ cell → HasEnd h cells k s → AreApt (of_path k cell i o)
  apt-path k (Gate inputs outputs min max) i o is ends = one (path_on k i o) (ap is_storage is)
  apt-path k (Latch pin_d pin_g high outputs ignored setup hold has_hold dq_min dq_max cq_min cq_max has_cq width) i o is ends = by (i == 0) (i == 1)
    where
      by : (a b : Bool) → AreApt (cond a (dq_of k ∷ []) (cond b (cq_of k ∷ []) []))
      by true b = one (dq_of k) (ap is_storage is, ends)
      by false true = one (cq_of k) (ap is_latch is, ends)
      by false false = nothing
  apt-path k (Flop pin_d pin_clock rising outputs ignored setup hold has_hold cq_min cq_max width) i o is ends = one-if (i == 1) (dq_of k) (ap is_storage is, ends)
  apt-path k (Clock input output invert ignored) i o is ends = nothing

  apt-check : (wanted i : ℕ) (cell : Cell) (t : Target) → IsApt h cells s t → AreApt (of_check cell wanted t i)
  apt-check wanted i cell t apt = one-if (is_storage cell && (i == wanted)) t apt

  apt-named : (f : ℕ → List Target) → ((i : ℕ) → AreApt (f i)) → (o : Option ℕ) → AreApt (targets (pins_named (option_map f o)))
  apt-named f each None = nothing
  apt-named f each (Some i) = each i

  apt-port : (o : Option PortBit) → AreApt (targets (at_port o))
  apt-port None = nothing
  apt-port (Some p) = by p.output
    where
      by : (b : Bool) → AreApt (targets (cond b (of (arcs_from p.bit ∷ [])) no_instance))
      by true = one (arcs_from p.bit) tt
      by false = nothing

  apt-into : (o : Option ℕ) → AreApt (targets (into o))
  apt-into None = nothing
  apt-into (Some b) = one (join_into b) tt

  apt-pin : (o : Option ℕ) (name : List ℕ) → AreApt (targets (at_pin h cells o name))
  apt-pin None name = nothing
  apt-pin (Some k) name = apt-into (option_map (pin_bit h k) (input_pin (leaf_cell h cells k) name))

  apt-interconnect : (path : List (List ℕ)) → AreApt (targets (of_interconnect h cells path))
  apt-interconnect [] = nothing
  apt-interconnect (name ∷ []) = apt-port (place_of h name)
  apt-interconnect (x ∷ y ∷ path) = apt-pin (leaf_called h (take (length (x ∷ y ∷ path) - 1) (x ∷ y ∷ path))) (slice_index_or (x ∷ y ∷ path) (length (x ∷ y ∷ path) - 1) [])

  apt-scope : (b : Bool) (path : List (List ℕ)) → AreApt (targets (cond b (of_interconnect h cells path) no_instance))
  apt-scope true path = apt-interconnect path
  apt-scope false path = nothing

-- at a leaf
pub apt-leaf : (h : Hierarchy) (cells : CellTable) (k : ℕ) (s : Subject) → All (IsApt h cells s) (targets (of_leaf h cells k s))
apt-leaf h cells k (subject.Iopath from to) = by (input_pin (leaf_cell h cells k) from) (output_pin (leaf_cell h cells k) to) refl
  where
    by : (a b : Option ℕ) → output_pin (leaf_cell h cells k) to ≡ b → All (IsApt h cells (subject.Iopath from to)) (targets (pins_named (option_map (λ p. of_path k (leaf_cell h cells k) p.0 p.1) (both a b))))
    by None b e = nothing h cells (subject.Iopath from to)
    by (Some i) None e = nothing h cells (subject.Iopath from to)
    by (Some i) (Some o) e = apt-path h cells (subject.Iopath from to) k (leaf_cell h cells k) i o refl (o, e)
apt-leaf h cells k (subject.Port pin) =
    apt-named h cells (subject.Port pin) (λ i. join_into (pin_bit h k i) ∷ []) (λ i. one h cells (subject.Port pin) (join_into (pin_bit h k i)) tt) (input_pin (leaf_cell h cells k) pin)
apt-leaf h cells k (subject.Setup pin) =
    apt-named h cells (subject.Setup pin) (of_check (leaf_cell h cells k) 0 (setup_of k)) (λ i. apt-check h cells (subject.Setup pin) 0 i (leaf_cell h cells k) (setup_of k) tt) (input_pin (leaf_cell h cells k) pin)
apt-leaf h cells k (subject.Hold pin) =
    apt-named h cells (subject.Hold pin) (of_check (leaf_cell h cells k) 0 (hold_of k)) (λ i. apt-check h cells (subject.Hold pin) 0 i (leaf_cell h cells k) (hold_of k) tt) (input_pin (leaf_cell h cells k) pin)
apt-leaf h cells k (subject.Width pin) =
    apt-named h cells (subject.Width pin) (of_check (leaf_cell h cells k) 1 (width_of k)) (λ i. apt-check h cells (subject.Width pin) 1 i (leaf_cell h cells k) (width_of k) tt) (input_pin (leaf_cell h cells k) pin)
apt-leaf h cells k (subject.Interconnect to) = nothing h cells (subject.Interconnect to)

-- at an instance
pub apt-instance : (h : Hierarchy) (cells : CellTable) (path : List (List ℕ)) (s : Subject) (o : Option ℕ) → All (IsApt h cells s) (targets (of_instance h cells path s o))
apt-instance h cells path (subject.Interconnect to) (Some k) = apt-interconnect h cells (subject.Interconnect to) (path ++ to)
apt-instance h cells path (subject.Interconnect to) None = apt-scope h cells (subject.Interconnect to) (is_scope h path) (path ++ to)
apt-instance h cells path (subject.Iopath from to) (Some k) = apt-leaf h cells k (subject.Iopath from to)
apt-instance h cells path (subject.Port pin) (Some k) = apt-leaf h cells k (subject.Port pin)
apt-instance h cells path (subject.Setup pin) (Some k) = apt-leaf h cells k (subject.Setup pin)
apt-instance h cells path (subject.Hold pin) (Some k) = apt-leaf h cells k (subject.Hold pin)
apt-instance h cells path (subject.Width pin) (Some k) = apt-leaf h cells k (subject.Width pin)
apt-instance h cells path (subject.Iopath from to) None = nothing h cells (subject.Iopath from to)
apt-instance h cells path (subject.Port pin) None = nothing h cells (subject.Port pin)
apt-instance h cells path (subject.Setup pin) None = nothing h cells (subject.Setup pin)
apt-instance h cells path (subject.Hold pin) None = nothing h cells (subject.Hold pin)
apt-instance h cells path (subject.Width pin) None = nothing h cells (subject.Width pin)
