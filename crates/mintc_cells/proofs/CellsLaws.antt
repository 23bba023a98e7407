-- Cells by their names, in ascending order.
use Rattle.std.proofs.Common.{◌≡◌, ℕ, suc, ◌++◌, List, [], ◌∷◌, map, length, None, Some, Bool, true, false, ◌&&◌, Vec, Global, Less, Equal, nat_cmp, nat_eq, bytes_eq, position, not, cond, nat_lt, ◌+◌, ◌<◌, ◌^◌, arith, append_assoc, refl, sym, ap, ◌∙◌, subst}
use Rattle.std.proofs.lemmas.Bool.{false_from_ne_true}
use Rattle.std.proofs.lemmas.Cmp.{nat_list_cmp_total}
use Rattle.std.proofs.lemmas.Slice.Eq.{bytes_eq-Decides}
use Rattle.std.specs.Cmp.{tied_itself}
use Rattle.std.specs.Cmp.Lexicographic.{slice_cmp, pointwise}
use Rattle.std.specs.List.{AllByRecursion, position_or_len, list_all}
use Rattle.std.proofs.lemmas.List.{map-append, length-map, length-append}
use Rattle.indexmap.specs.IndexMap.{insert_entry}
use Rattle.indexmap.proofs.MapLemmas.{absent_from_lookup, insert_entry-absent}
use Rattle.std.specs.List.Sorted.{IsStrictlySortedBy}
use Rattle.std.specs.Map.{keys_of, lookup}
use Rattle.mintc_cells.specs.declared.cell.Cell.{Cell}
use Rattle.std.proofs.lemmas.List.Folds.{list_all-append}
use Rattle.mintc_cells.specs.Entries.{names_of, AreAscending, AreKept, is_kept}
use Rattle.mintc_cells.proofs.SharedPinsLaws.{both_left}

abbrev pub KeyEntry : Type 0
KeyEntry = Vec ℕ Global × Cell

-- the entries of the map as the cells that they are seen as
abbrev pub seen : List KeyEntry → List (List ℕ × Cell)
seen es = map (λ e. (e.0.items, e.1)) es

abbrev pub is_key : List ℕ → Vec ℕ Global → Bool
is_key name key = pointwise nat_eq name key.items

length-seen : (es : List KeyEntry) → length (keys_of es) ≡ length (names_of (seen es))
length-seen [] = refl
length-seen (e ∷ es) = ap suc (length-seen es)

prefix-seen : (name : List ℕ) (es : List KeyEntry) → position_or_len (is_key name) (keys_of es) ≡ position_or_len (bytes_eq name) (names_of (seen es))
prefix-seen name [] = refl
prefix-seen name (e ∷ es) = ap (λ (n : ℕ). cond (not (bytes_eq name e.0.items)) (1 + n) 0) (prefix-seen name es)

-- the number of a key is that of its name
pub position-seen : (name : List ℕ) (es : List KeyEntry) → position (is_key name) (keys_of es) ≡ position (bytes_eq name) (names_of (seen es))
position-seen name es =
    ap (λ (n : ℕ). cond (nat_lt n (length (keys_of es))) (Some n) None) (prefix-seen name es)
    ∙ ap (λ (m : ℕ). cond (nat_lt (position_or_len (bytes_eq name) (names_of (seen es))) m) (Some (position_or_len (bytes_eq name) (names_of (seen es)))) None) (length-seen es)

-- a name below another is not it
differs : (x name : List ℕ) → slice_cmp nat_cmp x name ≡ Less → bytes_eq name x ≡ false
differs x name below = false_from_ne_true (bytes_eq name x) (λ same.
    let one : name ≡ x = (bytes_eq-Decides name x).0 same in
    let tied : slice_cmp nat_cmp x x ≡ Equal = tied_itself nat_list_cmp_total x in
    let less : slice_cmp nat_cmp x x ≡ Less = subst (λ (y : List ℕ). slice_cmp nat_cmp x y ≡ Less) one below in
    cc)

below_middle : (x : List ℕ) (es : List KeyEntry) (name : List ℕ) (more : List (List ℕ)) → AllByRecursion (λ y. slice_cmp nat_cmp x y ≡ Less) (names_of (seen es) ++ name ∷ more) → slice_cmp nat_cmp x name ≡ Less
below_middle x [] name more h = h.0
below_middle x (e ∷ es) name more h = below_middle x es name more h.1

-- the map has no name that comes later
pub absent : (es : List KeyEntry) (name : List ℕ) (more : List (List ℕ)) → AreAscending (names_of (seen es) ++ name ∷ more) → lookup (is_key name) es ≡ None
unfolding IsStrictlySortedBy
absent [] name more h = refl
absent (e ∷ es) name more h = rw (differs e.0.items name (below_middle e.0.items es name more h.0)) (absent es name more h.1)

abbrev pub key_eq : Vec ℕ Global → Vec ℕ Global → Bool
key_eq x y = is_key x.items y

-- one more entry, whose name comes after those in the map
pub added : (all rest : List (List ℕ × Cell)) (es new : List KeyEntry) (key : Vec ℕ Global) (name : List ℕ) (cell : Cell) → all ≡ seen es ++ (name, cell) ∷ rest →
    AreAscending (names_of all) → key.items ≡ name → new ≡ insert_entry key_eq es key cell → all ≡ seen new ++ rest
added all rest es new key name cell split ascending named made =
    let names : names_of all ≡ names_of (seen es) ++ name ∷ names_of rest = ap names_of split ∙ map-append (λ (e : List ℕ × Cell). e.0) (seen es) ((name, cell) ∷ rest) in
    let none : lookup (is_key name) es ≡ None = absent es name (names_of rest) (subst AreAscending names ascending) in
    let free : lookup (key_eq key) es ≡ None = subst (λ (n : List ℕ). lookup (is_key n) es ≡ None) (sym named) none in
    let last : new ≡ es ++ (key, cell) ∷ [] = made ∙ insert_entry-absent key_eq key cell es (absent_from_lookup (key_eq key) es free) in
    let shown : seen new ≡ seen es ++ (name, cell) ∷ [] = ap seen last ∙ map-append (λ (e : KeyEntry). (e.0.items, e.1)) es ((key, cell) ∷ []) ∙ ap (λ (n : List ℕ). seen es ++ (n, cell) ∷ []) named in
    split ∙ sym (append_assoc (seen es) ((name, cell) ∷ []) rest) ∙ ap (λ v. v ++ rest) (sym shown)

-- the map has no more entries than there are
pub few : (all rest : List (List ℕ × Cell)) (es : List KeyEntry) → all ≡ seen es ++ rest → length all < 2 ^ 32 → length es < 2 ^ 32
few all rest es split small =
    let sizes : length all ≡ length (seen es) + length rest = ap length split ∙ length-append (seen es) rest in
    omega (arith, sizes, length-map {B = List ℕ × Cell} es (λ (e : KeyEntry). (e.0.items, e.1)))

-- the entries in the map keep their rules, as all do
pub kept_front : (all rest : List (List ℕ × Cell)) (es : List KeyEntry) → all ≡ seen es ++ rest → AreKept all → AreKept (seen es)
kept_front all rest es split kept =
    let parts : (list_all is_kept (seen es) && list_all is_kept rest) ≡ true = sym (list_all-append is_kept (seen es) rest) ∙ subst AreKept split kept in
    both_left (list_all is_kept (seen es)) (list_all is_kept rest) parts

-- the front of names that ascend
front_below : (x : List ℕ) (ys zs : List (List ℕ)) → AllByRecursion (λ y. slice_cmp nat_cmp x y ≡ Less) (ys ++ zs) → AllByRecursion (λ y. slice_cmp nat_cmp x y ≡ Less) ys
front_below x [] zs h = tt
front_below x (y ∷ ys) zs h = (h.0, front_below x ys zs h.1)

front_ascends : (xs zs : List (List ℕ)) → AreAscending (xs ++ zs) → AreAscending xs
unfolding IsStrictlySortedBy
front_ascends [] zs h = tt
front_ascends (x ∷ xs) zs h = (front_below x xs zs h.0, front_ascends xs zs h.1)

-- the names in the map ascend, as all do
pub rising_front : (all rest : List (List ℕ × Cell)) (es : List KeyEntry) → all ≡ seen es ++ rest → AreAscending (names_of all) → AreAscending (names_of (seen es))
rising_front all rest es split rising =
    let names : names_of all ≡ names_of (seen es) ++ names_of rest = ap names_of split ∙ map-append (λ (e : List ℕ × Cell). e.0) (seen es) rest in
    front_ascends (names_of (seen es)) (names_of rest) (subst AreAscending names rising)
