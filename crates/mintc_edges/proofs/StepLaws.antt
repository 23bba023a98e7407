-- The table, once it has taken in one claim.
use Rattle.std.proofs.Common.{◌≡◌, ℕ, ◌==◌, ℤ, Bool, true, false, cond, ◌&&◌, ◌||◌, nat_eq, List, [], ◌∷◌, ◌++◌, slice_index_or, Some, option_map, refl, sym, ap, ◌∙◌, subst, ⊎_elim}
use Rattle.std.proofs.lemmas.Bool.{eq-eqb, ne_eqb, cases_eq}
use Rattle.mintc_cells.specs.declared.cell.Cell.{Cell}
use Rattle.mintc_cells.specs.declared.cell.Cell.TheVariants.{Gate, Latch, Flop, Clock}
use Rattle.mintc_cells.specs.Rules.{pins, is_cell}
use Rattle.mintc_flatten_hierarchy.specs.declared.hierarchy.Hierarchy.{Hierarchy}
use Rattle.mintc_flatten_hierarchy.specs.Shape.{CellTable}
use Rattle.mintc_sdf.specs.declared.delays.Subject.{Subject}
use Rattle.mintc_sdf.specs.declared.delays.Subject.TheVariants as subject
use Rattle.mintc_sdf_edges.specs.declared.delays.EdgeDelay.{EdgeDelay}
use Rattle.mintc_sdf_edges.specs.declared.delays.Edges.{Edges}
use Rattle.mintc_sdf_edges.specs.Laws.{HasEdges}
use Rattle.mintc_annotate_resolve.specs.Pins.{leaf_cell, is_storage}
use Rattle.mintc_annotate_resolve.specs.Resolution.{Target, path_on, join_into, arcs_from, dq_of, cq_of, setup_of, hold_of, width_of, same_target}
use Rattle.mintc_annotate.specs.Made.{is_latch, is_flop}
use Rattle.mintc_edges.specs.declared.edge.Edge.{Edge}
use Rattle.mintc_edges.specs.declared.edge.Edge.TheVariants.{Rise, Fall}
use Rattle.mintc_edges.specs.declared.matters.Matter.{Matter}
use Rattle.mintc_edges.specs.declared.matters.Matter.TheVariants as matter
use Rattle.mintc_edges.specs.declared.spreads.ByEdge.{ByEdge}
use Rattle.mintc_edges.specs.declared.told.Told.{Told}
use Rattle.mintc_edges.specs.Claims.{Claim, claimed, leads_to_pin, HasClaims, begins_at_clock, said_of, IsApt, matter_at}
use Rattle.mintc_edges.specs.Edges.{only, any, share}
use Rattle.mintc_edges.specs.Matters.{end_of, matter_of}
use Rattle.mintc_edges.specs.Numbers.{speaks_of, leads_to}
use Rattle.mintc_edges.specs.Spreads.{at_one, begun, widened_by}
use Rattle.mintc_annotate_delays.specs.Ranges.{same_key}
use Rattle.mintc_edges.specs.Told.{path_told, told_at, is_path, is_join, is_port, is_setup, is_hold, is_width, IsToldMore}
use Rattle.mintc_edges.proofs.ClaimLaws.{taken, in_edges, at-widened, along-widened}
use Rattle.mintc_edges.proofs.EndLaws.{not-both, one-output}

-- ---- tests
or-false : (x : Bool) → (x || false) ≡ x
or-false true = refl
or-false false = refl

and-true : (x : Bool) → (x && true) ≡ x
and-true true = refl
and-true false = refl

and-false : (x : Bool) → (x && false) ≡ false
and-false true = refl
and-false false = refl

and-turn : (x y : Bool) → (x && y) ≡ (y && x)
and-turn true y = sym (and-true y)
and-turn false y = sym (and-false y)

and-group : (x y z : Bool) → ((x && y) && z) ≡ (x && (y && z))
and-group true y z = refl
and-group false y z = refl

no-key : (x y z : Bool) → (((x && false) && y) && z) ≡ false
no-key true y z = refl
no-key false y z = refl

in-any : (e : Edge) → in_edges any e ≡ true
in-any Rise = refl
in-any Fall = refl

share-one : (xs : Edges) (e : Edge) → share (only e) xs ≡ in_edges xs e
share-one xs Rise = or-false xs.rise
share-one xs Fall = refl

differs : (P : ℕ → Bool) (k l : ℕ) → P k ≡ true → P l ≡ false → (k == l) ≡ false
differs P k l here there = ne_eqb k l (λ e. not-both (P l) (ap P (sym e) ∙ here) there)

-- ---- kinds of cells
latch-stores : (cell : Cell) → is_latch cell ≡ true → is_storage cell ≡ true
latch-stores (Latch a b c d e f g h i j k m n o) is = refl
latch-stores (Flop a b c d e f g h i j k) is = refl
latch-stores (Gate a b c d) is = absurd (let no : false ≡ true = is in cc)
latch-stores (Clock a b c d) is = absurd (let no : false ≡ true = is in cc)

flop-stores : (cell : Cell) → is_flop cell ≡ true → is_storage cell ≡ true
flop-stores (Latch a b c d e f g h i j k m n o) is = refl
flop-stores (Flop a b c d e f g h i j k) is = refl
flop-stores (Gate a b c d) is = absurd (let no : false ≡ true = is in cc)
flop-stores (Clock a b c d) is = absurd (let no : false ≡ true = is in cc)

latch-no-flop : (cell : Cell) → is_latch cell ≡ true → is_flop cell ≡ false
latch-no-flop (Flop a b c d e f g h i j k) is = absurd (let no : false ≡ true = is in cc)
latch-no-flop (Latch a b c d e f g h i j k m n o) is = refl
latch-no-flop (Gate a b c d) is = refl
latch-no-flop (Clock a b c d) is = refl

flop-no-latch : (cell : Cell) → is_flop cell ≡ true → is_latch cell ≡ false
flop-no-latch (Latch a b c d e f g h i j k m n o) is = absurd (let no : false ≡ true = is in cc)
flop-no-latch (Flop a b c d e f g h i j k) is = refl
flop-no-latch (Gate a b c d) is = refl
flop-no-latch (Clock a b c d) is = refl

-- the output of a subject at leaf l, and no other
ends-at : (h : Hierarchy) (cells : CellTable) (l o : ℕ) (s : Subject) → is_storage (leaf_cell h cells l) ≡ true → is_cell (leaf_cell h cells l) ≡ true → end_of h cells l s ≡ Some o → (p : ℕ) →
    leads_to (slice_index_or (pins (leaf_cell h cells l)) p []) s ≡ (o == p)
ends-at h cells l o (subject.Iopath from to) stores rules ends p = one-output (leaf_cell h cells l) stores rules to o ends p
ends-at h cells l o (subject.Interconnect to) stores rules ends p = absurd (cc)
ends-at h cells l o (subject.Port pin) stores rules ends p = absurd (cc)
ends-at h cells l o (subject.Setup pin) stores rules ends p = absurd (cc)
ends-at h cells l o (subject.Hold pin) stores rules ends p = absurd (cc)
ends-at h cells l o (subject.Width pin) stores rules ends p = absurd (cc)

module _ (h : Hierarchy) (cells : CellTable) (kept : (l : ℕ) → is_storage (leaf_cell h cells l) ≡ true → is_cell (leaf_cell h cells l) ≡ true) (d : EdgeDelay) (edges : HasEdges d) where
  abbrev s : Subject
  s = d.delay.subject

  abbrev stores : ℕ → Bool
  stores l = is_storage (leaf_cell h cells l)

  abbrev latch : ℕ → Bool
  latch l = is_latch (leaf_cell h cells l)

  abbrev flop : ℕ → Bool
  flop l = is_flop (leaf_cell h cells l)

  -- the edges from which a target's path leads
  abbrev from : Target → Edges
  from m = cond (begins_at_clock h cells m) any d.edge

  speaks-end : (e : Edge) → speaks_of any (only e) d ≡ in_edges d.speaks e
  speaks-end e = ap (λ b. b && share (only e) d.speaks) edges.edge ∙ share-one d.speaks e

  speaks-start : (e : Edge) → speaks_of (only e) any d ≡ in_edges d.edge e
  speaks-start e = ap (λ b. share (only e) d.edge && b) edges.speaks ∙ and-true (share (only e) d.edge) ∙ share-one d.edge e

  speaks-both : (a b : Edge) → speaks_of (only a) (only b) d ≡ (in_edges d.edge a && in_edges d.speaks b)
  speaks-both a b = ap (λ x. x && share (only b) d.speaks) (share-one d.edge a) ∙ ap (λ x. in_edges d.edge a && x) (share-one d.speaks b)

  -- output o is that of a target, if it has one
  abbrev pub EndsAt : ℕ → Target → Type 0
  EndsAt o (dq_of l) = end_of h cells l s ≡ Some o
  EndsAt o (cq_of l) = end_of h cells l s ≡ Some o
  EndsAt o _ = Unit {0}

  pub has-end : (m : Target) → IsApt h cells s m → (o : ℕ) × EndsAt o m
  has-end (dq_of l) apt = (apt.1.0, apt.1.1)
  has-end (cq_of l) apt = (apt.1.0, apt.1.1)
  has-end (path_on l i o) apt = (0, tt)
  has-end (join_into b) apt = (0, tt)
  has-end (arcs_from b) apt = (0, tt)
  has-end (setup_of l) apt = (0, tt)
  has-end (hold_of l) apt = (0, tt)
  has-end (width_of l) apt = (0, tt)

  pub matter-is : (m : Target) (o : ℕ) → EndsAt o m → matter_of h cells m s ≡ Some (matter_at h cells o m)
  matter-is (dq_of l) o ends = ap (λ r. option_map (matter.Path l (cond (flop l) 1 0)) r) ends
  matter-is (cq_of l) o ends = ap (λ r. option_map (matter.Path l 1) r) ends
  matter-is (path_on l i p) o ends = refl
  matter-is (join_into b) o ends = refl
  matter-is (arcs_from b) o ends = refl
  matter-is (setup_of l) o ends = refl
  matter-is (hold_of l) o ends = refl
  matter-is (width_of l) o ends = refl

  module _ (o : ℕ) where
    abbrev at : Target → Matter
    at m = matter_at h cells o m

    -- ---- wires and checks
    join-test : (m : Target) (b : ℕ) → is_join (at m) b ≡ same_target m (join_into b)
    join-test (join_into c) b = refl
    join-test (path_on l i p) b = refl
    join-test (arcs_from c) b = refl
    join-test (dq_of l) b = refl
    join-test (cq_of l) b = refl
    join-test (setup_of l) b = refl
    join-test (hold_of l) b = refl
    join-test (width_of l) b = refl

    port-test : (m : Target) (b : ℕ) → is_port (at m) b ≡ same_target m (arcs_from b)
    port-test (join_into c) b = refl
    port-test (path_on l i p) b = refl
    port-test (arcs_from c) b = refl
    port-test (dq_of l) b = refl
    port-test (cq_of l) b = refl
    port-test (setup_of l) b = refl
    port-test (hold_of l) b = refl
    port-test (width_of l) b = refl

    width-test : (m : Target) (l : ℕ) → is_width (at m) l ≡ same_target m (width_of l)
    width-test (join_into c) l = refl
    width-test (path_on k i p) l = refl
    width-test (arcs_from c) l = refl
    width-test (dq_of k) l = refl
    width-test (cq_of k) l = refl
    width-test (setup_of k) l = refl
    width-test (hold_of k) l = refl
    width-test (width_of k) l = refl

    at-end : (e : Edge) (t same : Bool) → t ≡ same → (t && in_edges d.speaks e) ≡ (speaks_of any (only e) d && same)
    at-end e t same is = ap (λ x. x && in_edges d.speaks e) is ∙ and-turn same (in_edges d.speaks e) ∙ ap (λ x. x && same) (sym (speaks-end e))

    setup-test : (m : Target) (l : ℕ) (e : Edge) → (is_setup (at m) l && in_edges (from m) e) ≡ (in_edges d.edge e && same_target m (setup_of l))
    setup-test (setup_of k) l e = and-turn (k == l) (in_edges d.edge e)
    setup-test (join_into c) l e = sym (and-false (in_edges d.edge e))
    setup-test (path_on k i p) l e = sym (and-false (in_edges d.edge e))
    setup-test (arcs_from c) l e = sym (and-false (in_edges d.edge e))
    setup-test (dq_of k) l e = sym (and-false (in_edges d.edge e))
    setup-test (cq_of k) l e = sym (and-false (in_edges d.edge e))
    setup-test (hold_of k) l e = sym (and-false (in_edges d.edge e))
    setup-test (width_of k) l e = sym (and-false (in_edges d.edge e))

    hold-test : (m : Target) (l : ℕ) (e : Edge) → (is_hold (at m) l && in_edges (from m) e) ≡ (in_edges d.edge e && same_target m (hold_of l))
    hold-test (hold_of k) l e = and-turn (k == l) (in_edges d.edge e)
    hold-test (join_into c) l e = sym (and-false (in_edges d.edge e))
    hold-test (path_on k i p) l e = sym (and-false (in_edges d.edge e))
    hold-test (arcs_from c) l e = sym (and-false (in_edges d.edge e))
    hold-test (dq_of k) l e = sym (and-false (in_edges d.edge e))
    hold-test (cq_of k) l e = sym (and-false (in_edges d.edge e))
    hold-test (setup_of k) l e = sym (and-false (in_edges d.edge e))
    hold-test (width_of k) l e = sym (and-false (in_edges d.edge e))

    -- ---- paths
    -- whether a path is that of a key, and from and to these edges
    abbrev along : Target → ℕ × ℕ × ℕ → Edge → Edge → Bool
    along m key a b = is_path (at m) key && (in_edges (from m) a && in_edges d.speaks b)

    none : (x y : Bool) → x ≡ false → x ≡ (y && false)
    none x y is = is ∙ sym (and-false y)

    other-leaf : (k x l i p : ℕ) (q : ℕ) (r : Bool) → (k == l) ≡ false → (same_key (k, x, q) (l, i, p) && r) ≡ false
    other-leaf k x l i p q r is = ap (λ t. ((t && nat_eq x i) && nat_eq q p) && r) is

    gate-test : (m : Target) → IsApt h cells s m → (l i p : ℕ) → stores l ≡ false → (a b : Edge) → along m (l, i, p) a b ≡ (speaks_of (only a) (only b) d && same_target m (path_on l i p))
    gate-test (path_on k j q) apt l i p gate a b =
        ap (λ t. t && (in_edges d.edge a && in_edges d.speaks b)) (and-group (k == l) (j == i) (q == p))
        ∙ and-turn ((k == l) && ((j == i) && (q == p))) (in_edges d.edge a && in_edges d.speaks b)
        ∙ ap (λ t. t && ((k == l) && ((j == i) && (q == p)))) (sym (speaks-both a b))
    gate-test (dq_of k) apt l i p gate a b =
        none (along (dq_of k) (l, i, p) a b) (speaks_of (only a) (only b) d)
        (other-leaf k (cond (flop k) 1 0) l i p o (in_edges (from (dq_of k)) a && in_edges d.speaks b) (differs stores k l apt.0 gate))
    gate-test (cq_of k) apt l i p gate a b =
        none (along (cq_of k) (l, i, p) a b) (speaks_of (only a) (only b) d)
        (other-leaf k 1 l i p o (in_edges any a && in_edges d.speaks b) (differs stores k l (latch-stores (leaf_cell h cells k) apt.0) gate))
    gate-test (join_into c) apt l i p gate a b = sym (and-false (speaks_of (only a) (only b) d))
    gate-test (arcs_from c) apt l i p gate a b = sym (and-false (speaks_of (only a) (only b) d))
    gate-test (setup_of k) apt l i p gate a b = sym (and-false (speaks_of (only a) (only b) d))
    gate-test (hold_of k) apt l i p gate a b = sym (and-false (speaks_of (only a) (only b) d))
    gate-test (width_of k) apt l i p gate a b = sym (and-false (speaks_of (only a) (only b) d))

    -- a path to its output, where its pin and edges are those of the key
    matches : (k x l p : ℕ) (r q : Bool) → (k == l) ≡ true → leads_to_pin h cells l p d ≡ (o == p) → r ≡ q → (same_key (k, x, o) (l, x, p) && r) ≡ ((leads_to_pin h cells l p d && q) && (k == l))
    matches k x l p r q same leads speaks =
        ap (λ t. ((t && nat_eq x x) && nat_eq o p) && r) same ∙ ap (λ t. ((true && t) && nat_eq o p) && r) (eq-eqb x x refl)
        ∙ ap (λ t. (o == p) && t) speaks ∙ ap (λ t. t && q) (sym leads) ∙ sym (and-true (leads_to_pin h cells l p d && q)) ∙ ap (λ t. (leads_to_pin h cells l p d && q) && t) (sym same)

    leads-at : (l p : ℕ) → stores l ≡ true → end_of h cells l s ≡ Some o → leads_to_pin h cells l p d ≡ (o == p)
    leads-at l p stored ends = ends-at h cells l o s stored (kept l stored) ends p

    -- the data pin of a latch
    data-test : (m : Target) → IsApt h cells s m → EndsAt o m → (l p : ℕ) → latch l ≡ true → (a b : Edge) →
        along m (l, 0, p) a b ≡ ((leads_to_pin h cells l p d && speaks_of (only a) (only b) d) && same_target m (dq_of l))
    data-test (dq_of k) apt ends l p is a b = ⊎_elim here there (cases_eq k l)
      where
        here : k ≡ l → along (dq_of k) (l, 0, p) a b ≡ ((leads_to_pin h cells l p d && speaks_of (only a) (only b) d) && (k == l))
        here e =
            let no : flop k ≡ false = latch-no-flop (leaf_cell h cells k) (ap latch e ∙ is) in
            ap (λ t. same_key (k, cond t 1 0, o) (l, 0, p) && (in_edges (cond t any d.edge) a && in_edges d.speaks b)) no
            ∙ matches k 0 l p (in_edges d.edge a && in_edges d.speaks b) (speaks_of (only a) (only b) d) (eq-eqb k l e) (leads-at l p (latch-stores (leaf_cell h cells l) is) (subst (λ v. end_of h cells v s ≡ Some o) e ends)) (sym (speaks-both a b))

        there : (k ≡ l → ⊥) → along (dq_of k) (l, 0, p) a b ≡ ((leads_to_pin h cells l p d && speaks_of (only a) (only b) d) && (k == l))
        there ne =
            other-leaf k (cond (flop k) 1 0) l 0 p o (in_edges (from (dq_of k)) a && in_edges d.speaks b) (ne_eqb k l ne)
            ∙ sym (and-false (leads_to_pin h cells l p d && speaks_of (only a) (only b) d)) ∙ ap (λ t. (leads_to_pin h cells l p d && speaks_of (only a) (only b) d) && t) (sym (ne_eqb k l ne))
    data-test (path_on k j q) apt ends l p is a b =
        none (along (path_on k j q) (l, 0, p) a b) (leads_to_pin h cells l p d && speaks_of (only a) (only b) d)
        (other-leaf k j l 0 p q (in_edges d.edge a && in_edges d.speaks b) (turned k l (differs stores l k (latch-stores (leaf_cell h cells l) is) apt)))
      where
        turned : (k l : ℕ) → (l == k) ≡ false → (k == l) ≡ false
        turned k l h = ne_eqb k l (λ e. not-both (l == k) (eq-eqb l k (sym e)) h)
    data-test (cq_of k) apt ends l p is a b =
        none (along (cq_of k) (l, 0, p) a b) (leads_to_pin h cells l p d && speaks_of (only a) (only b) d) (no-key (k == l) (o == p) (in_edges any a && in_edges d.speaks b))
    data-test (join_into c) apt ends l p is a b = sym (and-false (leads_to_pin h cells l p d && speaks_of (only a) (only b) d))
    data-test (arcs_from c) apt ends l p is a b = sym (and-false (leads_to_pin h cells l p d && speaks_of (only a) (only b) d))
    data-test (setup_of k) apt ends l p is a b = sym (and-false (leads_to_pin h cells l p d && speaks_of (only a) (only b) d))
    data-test (hold_of k) apt ends l p is a b = sym (and-false (leads_to_pin h cells l p d && speaks_of (only a) (only b) d))
    data-test (width_of k) apt ends l p is a b = sym (and-false (leads_to_pin h cells l p d && speaks_of (only a) (only b) d))

    any-speaks : (a b : Edge) → (in_edges any a && in_edges d.speaks b) ≡ speaks_of any (only b) d
    any-speaks a b = ap (λ t. t && in_edges d.speaks b) (in-any a) ∙ sym (speaks-end b)

    turn-leaf : (k l : ℕ) → (l == k) ≡ false → (k == l) ≡ false
    turn-leaf k l h = ne_eqb k l (λ e. not-both (l == k) (eq-eqb l k (sym e)) h)

    -- the enable of a latch
    enable-test : (m : Target) → IsApt h cells s m → EndsAt o m → (l p : ℕ) → latch l ≡ true → (a b : Edge) →
        along m (l, 1, p) a b ≡ ((leads_to_pin h cells l p d && speaks_of any (only b) d) && same_target m (cq_of l))
    enable-test (cq_of k) apt ends l p is a b = ⊎_elim here there (cases_eq k l)
      where
        here : k ≡ l → along (cq_of k) (l, 1, p) a b ≡ ((leads_to_pin h cells l p d && speaks_of any (only b) d) && (k == l))
        here e =
            matches k 1 l p (in_edges any a && in_edges d.speaks b) (speaks_of any (only b) d) (eq-eqb k l e) (leads-at l p (latch-stores (leaf_cell h cells l) is) (subst (λ v. end_of h cells v s ≡ Some o) e ends)) (any-speaks a b)

        there : (k ≡ l → ⊥) → along (cq_of k) (l, 1, p) a b ≡ ((leads_to_pin h cells l p d && speaks_of any (only b) d) && (k == l))
        there ne =
            other-leaf k 1 l 1 p o (in_edges any a && in_edges d.speaks b) (ne_eqb k l ne)
            ∙ sym (and-false (leads_to_pin h cells l p d && speaks_of any (only b) d)) ∙ ap (λ t. (leads_to_pin h cells l p d && speaks_of any (only b) d) && t) (sym (ne_eqb k l ne))
    enable-test (dq_of k) apt ends l p is a b = none (along (dq_of k) (l, 1, p) a b) (leads_to_pin h cells l p d && speaks_of any (only b) d) (by (flop k) refl)
      where
        by : (t : Bool) → flop k ≡ t → along (dq_of k) (l, 1, p) a b ≡ false
        by true f = other-leaf k (cond (flop k) 1 0) l 1 p o (in_edges (from (dq_of k)) a && in_edges d.speaks b) (differs flop k l f (latch-no-flop (leaf_cell h cells l) is))
        by false f =
            ap (λ t. same_key (k, cond t 1 0, o) (l, 1, p) && (in_edges (cond t any d.edge) a && in_edges d.speaks b)) f ∙ no-key (k == l) (o == p) (in_edges d.edge a && in_edges d.speaks b)
    enable-test (path_on k j q) apt ends l p is a b =
        none (along (path_on k j q) (l, 1, p) a b) (leads_to_pin h cells l p d && speaks_of any (only b) d)
        (other-leaf k j l 1 p q (in_edges d.edge a && in_edges d.speaks b) (turn-leaf k l (differs stores l k (latch-stores (leaf_cell h cells l) is) apt)))
    enable-test (join_into c) apt ends l p is a b = sym (and-false (leads_to_pin h cells l p d && speaks_of any (only b) d))
    enable-test (arcs_from c) apt ends l p is a b = sym (and-false (leads_to_pin h cells l p d && speaks_of any (only b) d))
    enable-test (setup_of k) apt ends l p is a b = sym (and-false (leads_to_pin h cells l p d && speaks_of any (only b) d))
    enable-test (hold_of k) apt ends l p is a b = sym (and-false (leads_to_pin h cells l p d && speaks_of any (only b) d))
    enable-test (width_of k) apt ends l p is a b = sym (and-false (leads_to_pin h cells l p d && speaks_of any (only b) d))

    -- the clock of a flop
    clock-test : (m : Target) → IsApt h cells s m → EndsAt o m → (l p : ℕ) → flop l ≡ true → (a b : Edge) →
        along m (l, 1, p) a b ≡ ((leads_to_pin h cells l p d && speaks_of any (only b) d) && same_target m (dq_of l))
    clock-test (dq_of k) apt ends l p is a b = ⊎_elim here there (cases_eq k l)
      where
        here : k ≡ l → along (dq_of k) (l, 1, p) a b ≡ ((leads_to_pin h cells l p d && speaks_of any (only b) d) && (k == l))
        here e =
            ap (λ t. same_key (k, cond t 1 0, o) (l, 1, p) && (in_edges (cond t any d.edge) a && in_edges d.speaks b)) (ap flop e ∙ is)
            ∙ matches k 1 l p (in_edges any a && in_edges d.speaks b) (speaks_of any (only b) d) (eq-eqb k l e) (leads-at l p (flop-stores (leaf_cell h cells l) is) (subst (λ v. end_of h cells v s ≡ Some o) e ends)) (any-speaks a b)

        there : (k ≡ l → ⊥) → along (dq_of k) (l, 1, p) a b ≡ ((leads_to_pin h cells l p d && speaks_of any (only b) d) && (k == l))
        there ne =
            other-leaf k (cond (flop k) 1 0) l 1 p o (in_edges (from (dq_of k)) a && in_edges d.speaks b) (ne_eqb k l ne)
            ∙ sym (and-false (leads_to_pin h cells l p d && speaks_of any (only b) d)) ∙ ap (λ t. (leads_to_pin h cells l p d && speaks_of any (only b) d) && t) (sym (ne_eqb k l ne))
    clock-test (cq_of k) apt ends l p is a b =
        none (along (cq_of k) (l, 1, p) a b) (leads_to_pin h cells l p d && speaks_of any (only b) d)
        (other-leaf k 1 l 1 p o (in_edges any a && in_edges d.speaks b) (differs latch k l apt.0 (flop-no-latch (leaf_cell h cells l) is)))
    clock-test (path_on k j q) apt ends l p is a b =
        none (along (path_on k j q) (l, 1, p) a b) (leads_to_pin h cells l p d && speaks_of any (only b) d)
        (other-leaf k j l 1 p q (in_edges d.edge a && in_edges d.speaks b) (turn-leaf k l (differs stores l k (flop-stores (leaf_cell h cells l) is) apt)))
    clock-test (join_into c) apt ends l p is a b = sym (and-false (leads_to_pin h cells l p d && speaks_of any (only b) d))
    clock-test (arcs_from c) apt ends l p is a b = sym (and-false (leads_to_pin h cells l p d && speaks_of any (only b) d))
    clock-test (setup_of k) apt ends l p is a b = sym (and-false (leads_to_pin h cells l p d && speaks_of any (only b) d))
    clock-test (hold_of k) apt ends l p is a b = sym (and-false (leads_to_pin h cells l p d && speaks_of any (only b) d))
    clock-test (width_of k) apt ends l p is a b = sym (and-false (leads_to_pin h cells l p d && speaks_of any (only b) d))

    -- ---- the whole table
    module _ (old new : Told) (m : Target) (apt : IsApt h cells s m) (ends : EndsAt o m) (more : IsToldMore old new (at m) (said_of h cells m d)) (cs : List Claim) (has : HasClaims h cells cs old) where
      abbrev claim : Claim
      claim = record { target = m; delay = d }

      abbrev least : ℤ
      least = d.delay.least

      abbrev greatest : ℤ
      greatest = d.delay.greatest

      path-step : (key : ℕ × ℕ × ℕ) (a b : Edge) (p : EdgeDelay → Bool) (t : Target) → at_one (begun (path_told old key) a) b ≡ claimed p cs t → along m key a b ≡ (p d && same_target m t) →
          at_one (begun (path_told new key) a) b ≡ claimed p (cs ++ claim ∷ []) t
      path-step key a b p t before same =
          ap (λ x. at_one (begun x a) b) (more.paths key) ∙ along-widened (is_path (at m) key) (from m) d.speaks least greatest (path_told old key) a b
          ∙ taken p cs claim t (is_path (at m) key) (in_edges (from m) a && in_edges d.speaks b) (at_one (begun (path_told old key) a) b) before same

      end-step : (x y : ByEdge) (test : Bool) (told : Edges) (e : Edge) (p : EdgeDelay → Bool) (t : Target) → y ≡ cond test (widened_by told least greatest x) x → at_one x e ≡ claimed p cs t → (test && in_edges told e) ≡ (p d && same_target m t) →
          at_one y e ≡ claimed p (cs ++ claim ∷ []) t
      end-step x y test told e p t is before same =
          ap (λ v. at_one v e) is ∙ at-widened test told least greatest x e ∙ taken p cs claim t test (in_edges told e) (at_one x e) before same

      pub has-more : HasClaims h cells (cs ++ claim ∷ []) new
      has-more = record {
        gates = λ l i p gate a b. path-step (l, i, p) a b (speaks_of (only a) (only b)) (path_on l i p) (has.gates l i p gate a b) (gate-test m apt l i p gate a b);
        from_data = λ l p is a b. path-step (l, 0, p) a b (λ d. leads_to_pin h cells l p d && speaks_of (only a) (only b) d) (dq_of l) (has.from_data l p is a b) (data-test m apt ends l p is a b);
        from_enable = λ l p is a b. path-step (l, 1, p) a b (λ d. leads_to_pin h cells l p d && speaks_of any (only b) d) (cq_of l) (has.from_enable l p is a b) (enable-test m apt ends l p is a b);
        from_clock = λ l p is a b. path-step (l, 1, p) a b (λ d. leads_to_pin h cells l p d && speaks_of any (only b) d) (dq_of l) (has.from_clock l p is a b) (clock-test m apt ends l p is a b);
        joins = λ b e.
            end-step (told_at old.joins.items b) (told_at new.joins.items b) (is_join (at m) b) d.speaks e (speaks_of any (only e)) (join_into b) (more.joins b) (has.joins b e) (at-end e (is_join (at m) b) (same_target m (join_into b)) (join-test m b));
        ports = λ b e.
            end-step (told_at old.ports.items b) (told_at new.ports.items b) (is_port (at m) b) d.speaks e (speaks_of any (only e)) (arcs_from b) (more.ports b) (has.ports b e) (at-end e (is_port (at m) b) (same_target m (arcs_from b)) (port-test m b));
        setups = λ l e.
            end-step (told_at old.setups.items l) (told_at new.setups.items l) (is_setup (at m) l) (from m) e (speaks_of (only e) any) (setup_of l) (more.setups l) (has.setups l e) (setup-test m l e ∙ ap (λ x. x && same_target m (setup_of l)) (sym (speaks-start e)));
        holds = λ l e.
            end-step (told_at old.holds.items l) (told_at new.holds.items l) (is_hold (at m) l) (from m) e (speaks_of (only e) any) (hold_of l) (more.holds l) (has.holds l e) (hold-test m l e ∙ ap (λ x. x && same_target m (hold_of l)) (sym (speaks-start e)));
        widths = λ l e.
            end-step (told_at old.widths.items l) (told_at new.widths.items l) (is_width (at m) l) d.speaks e (speaks_of any (only e)) (width_of l) (more.widths l) (has.widths l e) (at-end e (is_width (at m) l) (same_target m (width_of l)) (width-test m l));
      }
