-- A delay that leads to no output of a latch or flop says nothing of that one's delays.
use Rattle.std.proofs.Common.{◌≡◌, ℕ, ◌==◌, ◌-◌, ℤ, Bool, true, false, cond, ◌&&◌, List, [], ◌∷◌, ◌++◌, map, length, take, All, slice_index_or, Option, Some, None, option_map, refl, sym, ap, ◌∙◌}
use Rattle.std.proofs.lemmas.Bool.{eqb-true}
use Rattle.std.proofs.lemmas.List.Elements.{All-nil, All-cons, All-head, All-tail, All-append}
use Rattle.mintc_cells.specs.declared.cell.Cell.{Cell}
use Rattle.mintc_cells.specs.declared.cell.Cell.TheVariants.{Gate, Latch, Flop, Clock}
use Rattle.mintc_flatten_hierarchy.specs.declared.hierarchy.Hierarchy.{Hierarchy}
use Rattle.mintc_flatten_hierarchy.specs.Shape.{CellTable}
use Rattle.mintc_sdf.specs.declared.delays.Delay.{Delay}
use Rattle.mintc_sdf.specs.declared.delays.Place.{Place}
use Rattle.mintc_sdf.specs.declared.delays.Place.TheVariants.{Top, Every, Path}
use Rattle.mintc_sdf.specs.declared.delays.Subject.{Subject}
use Rattle.mintc_sdf.specs.declared.delays.Subject.TheVariants as subject
use Rattle.mintc_annotate_resolve.specs.declared.ports.PortBit.{PortBit}
use Rattle.mintc_annotate_resolve.specs.Pins.{leaf_cell, is_storage, pin_bit, input_pin, output_pin}
use Rattle.mintc_annotate_resolve.specs.Ports.{place_of}
use Rattle.mintc_annotate_resolve.specs.Resolution.{Target, path_on, join_into, arcs_from, dq_of, cq_of, setup_of, hold_of, width_of, Resolved, of, no_instance, no_arc, of_path, of_check, both, pins_named, of_leaf, leaf_called, is_scope, at_port, into, at_pin, of_interconnect, of_instance, leaves_of, together, of_each, of_every, of_place, resolved, targets, said_by, same_target, range_of, widened}
use Rattle.mintc_edges.specs.Matters.{end_of}

-- whether a target is a delay of leaf l
abbrev pub is_delay_of : ℕ → Target → Bool
is_delay_of l (dq_of k) = k == l
is_delay_of l (cq_of k) = k == l
is_delay_of l _ = false

module _ (h : Hierarchy) (cells : CellTable) (l : ℕ) where
  abbrev Silent : List Target → Type 0
  Silent ts = All (λ t. is_delay_of l t ≡ false) ts

  nothing : Silent []
  nothing = All-nil (λ t. is_delay_of l t ≡ false)

  one : (t : Target) → is_delay_of l t ≡ false → Silent (t ∷ [])
  one t e = All-cons (λ t. is_delay_of l t ≡ false) t [] e nothing

  one-if : (b : Bool) (t : Target) → is_delay_of l t ≡ false → Silent (cond b (t ∷ []) [])
  one-if true t e = one t e
  one-if false t e = nothing

  silent-path : (k : ℕ) (cell : Cell) (i o : ℕ) → (k == l) ≡ false → Silent (of_path k cell i o)
  silent-path k (Gate inputs outputs min max) i o e = one (path_on k i o) refl
  silent-path k (Latch pin_d pin_g high outputs ignored setup hold has_hold dq_min dq_max cq_min cq_max has_cq width) i o e = by (i == 0) (i == 1)
    where
      by : (a b : Bool) → Silent (cond a (dq_of k ∷ []) (cond b (cq_of k ∷ []) []))
      by true b = one (dq_of k) e
      by false true = one (cq_of k) e
      by false false = nothing
  silent-path k (Flop pin_d pin_clock rising outputs ignored setup hold has_hold cq_min cq_max width) i o e = one-if (i == 1) (dq_of k) e
  silent-path k (Clock input output invert ignored) i o e = nothing

  silent-check : (k wanted i : ℕ) (cell : Cell) (t : Target) → is_delay_of l t ≡ false → Silent (of_check cell wanted t i)
  silent-check k wanted i cell t e = one-if (is_storage cell && (i == wanted)) t e

  silent-named : (f : ℕ → List Target) → ((i : ℕ) → Silent (f i)) → (o : Option ℕ) → Silent (targets (pins_named (option_map f o)))
  silent-named f each None = nothing
  silent-named f each (Some i) = each i

  silent-leaf : (k : ℕ) (s : Subject) → end_of h cells l s ≡ None → Silent (targets (of_leaf h cells k s))
  silent-leaf k (subject.Iopath from to) none = by (input_pin (leaf_cell h cells k) from) (output_pin (leaf_cell h cells k) to) refl
    where
      by : (a b : Option ℕ) → output_pin (leaf_cell h cells k) to ≡ b → Silent (targets (pins_named (option_map (λ p. of_path k (leaf_cell h cells k) p.0 p.1) (both a b))))
      by None b e = nothing
      by (Some i) None e = nothing
      by (Some i) (Some o) e = silent-path k (leaf_cell h cells k) i o (other (k == l) refl)
        where
          other : (t : Bool) → (k == l) ≡ t → t ≡ false
          other false is = refl
          other true is = let same : output_pin (leaf_cell h cells k) to ≡ None = ap (λ v. output_pin (leaf_cell h cells v) to) (eqb-true k l is) ∙ none in absurd (let both_ways : Some o ≡ None = sym e ∙ same in cc)
  silent-leaf k (subject.Port pin) none = silent-named (λ i. join_into (pin_bit h k i) ∷ []) (λ i. one (join_into (pin_bit h k i)) refl) (input_pin (leaf_cell h cells k) pin)
  silent-leaf k (subject.Setup pin) none = silent-named (of_check (leaf_cell h cells k) 0 (setup_of k)) (λ i. silent-check k 0 i (leaf_cell h cells k) (setup_of k) refl) (input_pin (leaf_cell h cells k) pin)
  silent-leaf k (subject.Hold pin) none = silent-named (of_check (leaf_cell h cells k) 0 (hold_of k)) (λ i. silent-check k 0 i (leaf_cell h cells k) (hold_of k) refl) (input_pin (leaf_cell h cells k) pin)
  silent-leaf k (subject.Width pin) none = silent-named (of_check (leaf_cell h cells k) 1 (width_of k)) (λ i. silent-check k 1 i (leaf_cell h cells k) (width_of k) refl) (input_pin (leaf_cell h cells k) pin)
  silent-leaf k (subject.Interconnect to) none = nothing

  silent-together : (a b : Resolved) → Silent (targets a) → Silent (targets b) → Silent (targets (together a b))
  silent-together (of ms) (of ns) p q = All-append (λ t. is_delay_of l t ≡ false) ms ns p q
  silent-together (of ms) no_instance p q = nothing
  silent-together (of ms) no_arc p q = nothing
  silent-together no_instance b p q = nothing
  silent-together no_arc b p q = nothing

  silent-each : (s : Subject) → end_of h cells l s ≡ None → (ks : List ℕ) → Silent (targets (of_each h cells s ks))
  silent-each s none [] = nothing
  silent-each s none (k ∷ ks) = silent-together (of_leaf h cells k s) (of_each h cells s ks) (silent-leaf k s none) (silent-each s none ks)

  silent-port : (o : Option PortBit) → Silent (targets (at_port o))
  silent-port None = nothing
  silent-port (Some p) = by p.output
    where
      by : (b : Bool) → Silent (targets (cond b (of (arcs_from p.bit ∷ [])) no_instance))
      by true = one (arcs_from p.bit) refl
      by false = nothing

  silent-into : (o : Option ℕ) → Silent (targets (into o))
  silent-into None = nothing
  silent-into (Some b) = one (join_into b) refl

  silent-pin : (o : Option ℕ) (name : List ℕ) → Silent (targets (at_pin h cells o name))
  silent-pin None name = nothing
  silent-pin (Some k) name = silent-into (option_map (pin_bit h k) (input_pin (leaf_cell h cells k) name))

  silent-interconnect : (path : List (List ℕ)) → Silent (targets (of_interconnect h cells path))
  silent-interconnect [] = nothing
  silent-interconnect (name ∷ []) = silent-port (place_of h name)
  silent-interconnect (x ∷ y ∷ path) = silent-pin (leaf_called h (take (length (x ∷ y ∷ path) - 1) (x ∷ y ∷ path))) (slice_index_or (x ∷ y ∷ path) (length (x ∷ y ∷ path) - 1) [])

  silent-scope : (b : Bool) (path : List (List ℕ)) → Silent (targets (cond b (of_interconnect h cells path) no_instance))
  silent-scope true path = silent-interconnect path
  silent-scope false path = nothing

  silent-instance : (path : List (List ℕ)) (s : Subject) (o : Option ℕ) → end_of h cells l s ≡ None → Silent (targets (of_instance h cells path s o))
  silent-instance path (subject.Interconnect to) (Some k) none = silent-interconnect (path ++ to)
  silent-instance path (subject.Interconnect to) None none = silent-scope (is_scope h path) (path ++ to)
  silent-instance path (subject.Iopath from to) (Some k) none = silent-leaf k (subject.Iopath from to) none
  silent-instance path (subject.Port pin) (Some k) none = silent-leaf k (subject.Port pin) none
  silent-instance path (subject.Setup pin) (Some k) none = silent-leaf k (subject.Setup pin) none
  silent-instance path (subject.Hold pin) (Some k) none = silent-leaf k (subject.Hold pin) none
  silent-instance path (subject.Width pin) (Some k) none = silent-leaf k (subject.Width pin) none
  silent-instance path (subject.Iopath from to) None none = nothing
  silent-instance path (subject.Port pin) None none = nothing
  silent-instance path (subject.Setup pin) None none = nothing
  silent-instance path (subject.Hold pin) None none = nothing
  silent-instance path (subject.Width pin) None none = nothing

  silent-every : (ct : List ℕ) (s : Subject) → end_of h cells l s ≡ None → Silent (targets (of_every h cells ct s))
  silent-every ct (subject.Interconnect to) none = nothing
  silent-every ct (subject.Iopath from to) none = silent-each (subject.Iopath from to) none (leaves_of h cells ct)
  silent-every ct (subject.Port pin) none = silent-each (subject.Port pin) none (leaves_of h cells ct)
  silent-every ct (subject.Setup pin) none = silent-each (subject.Setup pin) none (leaves_of h cells ct)
  silent-every ct (subject.Hold pin) none = silent-each (subject.Hold pin) none (leaves_of h cells ct)
  silent-every ct (subject.Width pin) none = silent-each (subject.Width pin) none (leaves_of h cells ct)

  silent-place : (d : Delay) (p : Place) → end_of h cells l d.subject ≡ None → Silent (targets (of_place h cells d p))
  silent-place d Top none = silent-instance [] d.subject None none
  silent-place d Every none = silent-every d.celltype d.subject none
  silent-place d (Path path) none = silent-instance path d.subject (leaf_called h path) none

  other-target : (t : Target) → is_delay_of l t ≡ false → (same_target t (dq_of l) ≡ false) × (same_target t (cq_of l) ≡ false)
  other-target (dq_of k) e = (e, refl)
  other-target (cq_of k) e = (refl, e)
  other-target (path_on k i o) e = (refl, refl)
  other-target (join_into b) e = (refl, refl)
  other-target (arcs_from b) e = (refl, refl)
  other-target (setup_of k) e = (refl, refl)
  other-target (hold_of k) e = (refl, refl)
  other-target (width_of k) e = (refl, refl)

  -- so a delay that ends at no output of leaf l says nothing of that
  silent-said : (m : Target) → ((t : Target) → is_delay_of l t ≡ false → same_target t m ≡ false) → (least greatest : ℤ) (ts : List Target) → Silent ts →
      range_of (map (λ t. record { target = t; least = least; greatest = greatest }) ts) m ≡ None
  silent-said m other least greatest [] all = refl
  silent-said m other least greatest (t ∷ ts) all =
      let rest = silent-said m other least greatest ts (All-tail (λ t. is_delay_of l t ≡ false) t ts all) in
      ap (λ b. cond b (Some (widened least greatest (range_of (map (λ t. record { target = t; least = least; greatest = greatest }) ts) m))) (range_of (map (λ t. record { target = t; least = least; greatest = greatest }) ts) m))
      (other t (All-head (λ t. is_delay_of l t ≡ false) t ts all)) ∙ rest

  pub says-nothing : (d : Delay) → end_of h cells l d.subject ≡ None → (range_of (said_by h cells d) (dq_of l) ≡ None) × (range_of (said_by h cells d) (cq_of l) ≡ None)
  says-nothing d none =
      let all = silent-place d d.place none in (
        silent-said (dq_of l) (λ t e. (other-target t e).0) d.least d.greatest (targets (resolved h cells d)) all,
        silent-said (cq_of l) (λ t e. (other-target t e).1) d.least d.greatest (targets (resolved h cells d)) all,
      )
