-- The leaves of a cell type.
use Rattle.std.proofs.Common.{◌≡◌, ◌<◌, ◌≤◌, ◌+◌, ◌==◌, ℕ, suc, Bool, true, false, cond, List, [], ◌∷◌, ◌++◌, length, filter, take, get_or, slice_index_or, bytes_eq, Some, None, refl, sym, ap, ◌∙◌, subst, arith, ⊎_elim, Vec, Global, length-append, Less}
use Rattle.std.specs.Ordering.{nat_cmp, is_eq}
use Rattle.std.specs.Cmp.Lexicographic.{slice_cmp}
use Rattle.std.proofs.lemmas.Bool.{cases_eq, cases_lt, eq-eqb, ne_eqb}
use Rattle.std.proofs.lemmas.List.{get_or-map, length-map, take_all, get_or_default, get_or_push, get_or_append_left}
use Rattle.std.proofs.lemmas.List.Elements.{All-filter, filter_more}
use Rattle.std.proofs.lemmas.List.FromFn.{length-range_with_len}
use Rattle.std.proofs.lemmas.List.Quantifiers.{position-Some}
use Rattle.std.proofs.lemmas.Map.Keys.{Less-from_sorted}
use Rattle.std.proofs.lemmas.Map.Text.{is_eq-slice_cmp}
use Rattle.std.proofs.lemmas.Slice.Eq.{bytes_eq-Decides}
use Rattle.mintc_cells.specs.declared.cell.Cell.{Cell}
use Rattle.mintc_cells.specs.Entries.{AreOrdered, names_of, name_at, no_cell, number_of}
use Rattle.mintc_sdf.specs.declared.delays.Subject.{Subject}
use Rattle.mintc_sdf.specs.declared.delays.Subject.TheVariants as subject
use Rattle.mintc_flatten_hierarchy.specs.declared.hierarchy.Hierarchy.{Hierarchy}
use Rattle.mintc_flatten_hierarchy.specs.Shape.{CellTable, IsFlattened}
use Rattle.mintc_annotate_resolve.specs.Pins.{leaf_at, no_leaf, all_leaves}
use Rattle.mintc_annotate_resolve.specs.Resolution.{of, of_each, of_every, leaves_of}
use Rattle.mintc_annotate_delays.specs.Groups.{leaves_with}
use Rattle.mintc_annotate_delays.specs.Gathered.{IsGroupedIn}
use Rattle.mintc_annotate_resolve.proofs.SharedFirstLaws.{number, position_missing}
use Rattle.mintc_annotate_resolve.proofs.SharedResolutionLaws.{IsNoWire}

-- ---- filters
filter_same : (p q : ℕ → Bool) (xs : List ℕ) → ((k : ℕ) → k < length xs → p (get_or xs k 0) ≡ q (get_or xs k 0)) → filter p xs ≡ filter q xs
filter_same p q [] same = refl
filter_same p q (x ∷ xs) same =
    ap (λ (b : Bool). cond b (x ∷ filter p xs) (filter p xs)) (same 0 (omega arith))
    ∙ ap (λ (l : List ℕ). cond (q x) (x ∷ l) l) (filter_same p q xs (λ k below. same (suc k) (omega (arith, below))))

filter_none : (p : ℕ → Bool) (xs : List ℕ) → ((k : ℕ) → k < length xs → p (get_or xs k 0) ≡ false) → filter p xs ≡ []
filter_none p [] none = refl
filter_none p (x ∷ xs) none =
    ap (λ (b : Bool). cond b (x ∷ filter p xs) (filter p xs)) (none 0 (omega arith)) ∙ filter_none p xs (λ k below. none (suc k) (omega (arith, below)))

-- ---- names of cells
name_get : (cells : CellTable) (c : ℕ) → c < length cells → get_or (names_of cells) c [] ≡ name_at cells c
name_get cells c within = get_or-map (λ (e : List ℕ × Cell). e.0) cells c no_cell [] within

length_names : (cells : CellTable) → length (names_of cells) ≡ length cells
length_names cells = length-map cells (λ (e : List ℕ × Cell). e.0)

apart : (cells : CellTable) (i j : ℕ) → AreOrdered cells → i < j → j < length cells → name_at cells i ≡ name_at cells j → ⊥
apart cells i j ordered less within same =
    let order : slice_cmp nat_cmp (get_or (names_of cells) i []) (get_or (names_of cells) j []) ≡ Less =
    Less-from_sorted (slice_cmp nat_cmp) (names_of cells) i j [] ordered.ascending less (omega (arith, within, length_names cells)) in
    let alike : get_or (names_of cells) i [] ≡ get_or (names_of cells) j [] = name_get cells i (omega (arith, less, within)) ∙ same ∙ sym (name_get cells j within) in
    let test : bytes_eq (get_or (names_of cells) i []) (get_or (names_of cells) j []) ≡ true = (bytes_eq-Decides (get_or (names_of cells) i []) (get_or (names_of cells) j [])).1 alike in
    let other : is_eq (slice_cmp nat_cmp (get_or (names_of cells) i []) (get_or (names_of cells) j [])) ≡ bytes_eq (get_or (names_of cells) i []) (get_or (names_of cells) j []) =
    is_eq-slice_cmp (get_or (names_of cells) i []) (get_or (names_of cells) j []) in
    let no_tie : false ≡ is_eq (slice_cmp nat_cmp (get_or (names_of cells) i []) (get_or (names_of cells) j [])) = ap is_eq (sym order) in
    cc

one_name : (cells : CellTable) (c n : ℕ) → AreOrdered cells → c < length cells → n < length cells → name_at cells c ≡ name_at cells n → c ≡ n
one_name cells c n ordered left right same =
    ⊎_elim (λ e. e) (λ ne. ⊎_elim (λ less. absurd (apart cells c n ordered less right same)) (λ more. absurd (apart cells n c ordered (omega (arith, more, ne)) left (sym same))) (cases_lt c n)) (cases_eq c n)

named_by : (cells : CellTable) (ct : List ℕ) (c n : ℕ) (t : Bool) → bytes_eq (name_at cells c) ct ≡ t → AreOrdered cells → c < length cells → n < length cells → name_at cells n ≡ ct → bytes_eq (name_at cells c) ct ≡ (c == n)
named_by cells ct c n true test ordered left right is =
    test ∙ sym (eq-eqb c n (one_name cells c n ordered left right ((bytes_eq-Decides (name_at cells c) ct).0 test ∙ sym is)))
named_by cells ct c n false test ordered left right is =
    test ∙ sym (ne_eqb c n (λ e. let yes_test : bytes_eq (name_at cells c) ct ≡ true = (bytes_eq-Decides (name_at cells c) ct).1 (ap (name_at cells) e ∙ is) in cc))

pub found_cell : (cells : CellTable) (ct : List ℕ) (n : ℕ) → number_of cells ct ≡ Some n → (n < length cells) × (name_at cells n ≡ ct)
found_cell cells ct n found =
    let at = position-Some (bytes_eq ct) (names_of cells) n [] found in
    let within : n < length cells = omega (arith, at.0, length_names cells) in
    (within, sym (name_get cells n within) ∙ sym ((bytes_eq-Decides ct (get_or (names_of cells) n [])).0 at.1))

-- ---- the leaves of a cell type
pub cell_within : (h : Hierarchy) (cells : CellTable) (l : ℕ) → IsFlattened cells h → l < length h.leaves → (leaf_at h l).cell < length cells
cell_within h cells l shape within = (shape.each_leaf l no_leaf within).cell

pub leaves_found : (h : Hierarchy) (cells : CellTable) (ct : List ℕ) (n : ℕ) → IsFlattened cells h → AreOrdered cells → number_of cells ct ≡ Some n → leaves_with h n ≡ leaves_of h cells ct
leaves_found h cells ct n shape ordered found =
    let known = found_cell cells ct n found in
    filter_same (λ l. (leaf_at h l).cell == n) (λ l. bytes_eq (name_at cells (leaf_at h l).cell) ct) (all_leaves h)
    (λ k below.
    let within : k < length h.leaves = omega (arith, below, length-range_with_len 0 (length h.leaves)) in
    ap (λ (l : ℕ). (leaf_at h l).cell == n) (number (length h.leaves) k within)
    ∙ sym (named_by cells ct (leaf_at h k).cell n (bytes_eq (name_at cells (leaf_at h k).cell) ct) refl ordered (cell_within h cells k shape within) known.0 known.1)
    ∙ ap (λ (l : ℕ). bytes_eq (name_at cells (leaf_at h l).cell) ct) (sym (number (length h.leaves) k within)))

differs_by : (a b : List ℕ) (t : Bool) → bytes_eq b a ≡ t → bytes_eq a b ≡ false → bytes_eq b a ≡ false
differs_by a b true test no_test = let yes_test : bytes_eq a b ≡ true = (bytes_eq-Decides a b).1 (sym ((bytes_eq-Decides b a).0 test)) in absurd (cc)
differs_by a b false test no_test = test

pub leaves_missing : (h : Hierarchy) (cells : CellTable) (ct : List ℕ) → IsFlattened cells h → number_of cells ct ≡ None → leaves_of h cells ct ≡ []
leaves_missing h cells ct shape missing =
    filter_none (λ l. bytes_eq (name_at cells (leaf_at h l).cell) ct) (all_leaves h)
    (λ k below.
    let within : k < length h.leaves = omega (arith, below, length-range_with_len 0 (length h.leaves)) in
    let cell = cell_within h cells k shape within in
    ap (λ (l : ℕ). bytes_eq (name_at cells (leaf_at h l).cell) ct) (number (length h.leaves) k within)
    ∙ differs_by ct (name_at cells (leaf_at h k).cell) (bytes_eq (name_at cells (leaf_at h k).cell) ct) refl
    (ap (bytes_eq ct) (sym (name_get cells (leaf_at h k).cell cell)) ∙ position_missing (bytes_eq ct) (names_of cells) [] missing (leaf_at h k).cell (omega (arith, cell, length_names cells))))

pub group_inside : (h : Hierarchy) (n k : ℕ) → k < length (leaves_with h n) → get_or (leaves_with h n) k 0 < length h.leaves
group_inside h n k below =
    All-filter (λ l. (leaf_at h l).cell == n) (λ l. l < length h.leaves) (all_leaves h)
    (λ i d within.
    let less : i < length h.leaves = omega (arith, within, length-range_with_len 0 (length h.leaves)) in
    subst (λ (x : ℕ). x < length h.leaves) (sym (get_or_default (all_leaves h) i d 0 within ∙ number (length h.leaves) i less)) less)
    k 0 below

-- ---- a delay at all of them
other_every : (h : Hierarchy) (cells : CellTable) (ct : List ℕ) (s : Subject) → IsNoWire s → of_each h cells s (leaves_of h cells ct) ≡ of_every h cells ct s
other_every h cells ct (subject.Interconnect to) none = absurd (none to refl)
other_every h cells ct _ none = refl

pub every_found : (h : Hierarchy) (cells : CellTable) (ct : List ℕ) (s : Subject) (n : ℕ) → IsFlattened cells h → AreOrdered cells → number_of cells ct ≡ Some n → IsNoWire s → of_each h cells s (leaves_with h n) ≡ of_every h cells ct s
every_found h cells ct s n shape ordered found none = ap (of_each h cells s) (leaves_found h cells ct n shape ordered found) ∙ other_every h cells ct s none

pub every_missing : (h : Hierarchy) (cells : CellTable) (ct : List ℕ) (s : Subject) → IsFlattened cells h → number_of cells ct ≡ None → IsNoWire s → of [] ≡ of_every h cells ct s
every_missing h cells ct s shape missing none = ap (of_each h cells s) (sym (leaves_missing h cells ct shape missing)) ∙ other_every h cells ct s none

-- ---- groups, as they grow

pub no_groups_more : (groups : List (Vec ℕ Global)) (n : ℕ) (v : Vec ℕ Global) → length groups ≡ n → ((c : ℕ) (d : Vec ℕ Global) → c < n → (slice_index_or groups c d).items ≡ []) → v.items ≡ [] →
    (length (groups ++ v ∷ []) ≡ n + 1) × ((c : ℕ) (d : Vec ℕ Global) → c < n + 1 → (slice_index_or (groups ++ v ∷ []) c d).items ≡ [])
no_groups_more groups n v size each empty = (
  length-append groups (v ∷ []) ∙ ap (λ (k : ℕ). k + 1) size,
  λ c d below. ⊎_elim
      (λ last. ap (λ (x : Vec ℕ Global). x.items) (get_or_push groups v d c (size ∙ sym last)) ∙ empty)
      (λ other.
      let less : c < n = omega (arith, below, other) in
      ap (λ (x : Vec ℕ Global). x.items) (get_or_append_left groups (v ∷ []) d c (omega (arith, less, size))) ∙ each c d less)
      (cases_eq c n),
)

swap_test : (a b : ℕ) → (a == b) ≡ (b == a)
swap_test a b = ⊎_elim (λ e. eq-eqb a b e ∙ sym (eq-eqb b a (sym e))) (λ ne. ne_eqb a b ne ∙ sym (ne_eqb b a (λ e. ne (sym e)))) (cases_eq a b)

one_leaf : (h : Hierarchy) (n c cell : ℕ) → n < length h.leaves → (leaf_at h n).cell ≡ cell →
    filter (λ k. (leaf_at h k).cell == c) (take (n + 1) (all_leaves h)) ≡ filter (λ k. (leaf_at h k).cell == c) (take n (all_leaves h)) ++ cond (c == cell) (n ∷ []) []
one_leaf h n c cell within at =
    rw (filter_more (λ k. (leaf_at h k).cell == c) (all_leaves h) n 0 (omega (arith, within, length-range_with_len 0 (length h.leaves))), number (length h.leaves) n within, at, swap_test cell c) refl

pub groups_more : (h : Hierarchy) (count n cell : ℕ) (old new : List (Vec ℕ Global)) → n < length h.leaves → (leaf_at h n).cell ≡ cell → length old ≡ count → IsGroupedIn old new cell n →
    ((c : ℕ) (d : Vec ℕ Global) → c < count → (slice_index_or old c d).items ≡ filter (λ k. (leaf_at h k).cell == c) (take n (all_leaves h))) →
    (length new ≡ count) × ((c : ℕ) (d : Vec ℕ Global) → c < count → (slice_index_or new c d).items ≡ filter (λ k. (leaf_at h k).cell == c) (take (n + 1) (all_leaves h)))
groups_more h count n cell old new within at size grouped each = (
  grouped.0 ∙ size,
  λ c d below. grouped.1 c d (omega (arith, below, size)) ∙ ap (λ (l : List ℕ). l ++ cond (c == cell) (n ∷ []) []) (each c d below) ∙ sym (one_leaf h n c cell within at),
)

pub groups_all : (h : Hierarchy) (n c : ℕ) → length h.leaves ≤ n → filter (λ k. (leaf_at h k).cell == c) (take n (all_leaves h)) ≡ leaves_with h c
groups_all h n c past = ap (filter (λ k. (leaf_at h k).cell == c)) (take_all n (all_leaves h) (omega (arith, past, length-range_with_len 0 (length h.leaves))))
