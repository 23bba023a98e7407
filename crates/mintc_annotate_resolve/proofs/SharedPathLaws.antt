-- Paths, and the first that has one.
use Rattle.std.proofs.Common.{◌≡◌, ◌<◌, ◌≤◌, ◌+◌, ℕ, zero, suc, Bool, true, false, not, ◌&&◌, List, [], ◌∷◌, ◌++◌, length, get_or, bytes_eq, Some, None, refl, sym, ap, ◌∙◌, arith, append_assoc, append-nil, drop, take, ◌-◌}
use Rattle.std.proofs.lemmas.List.{drop_more, drop_all, take_more, take_all, get_or_default}
use Rattle.std.proofs.Math.Bool.{and-false}
use Rattle.std.proofs.lemmas.Bool.{and_parts}
use Rattle.std.proofs.lemmas.Slice.Eq.{bytes_eq-Decides}
use Rattle.mintc_flatten_hierarchy.specs.declared.hierarchy.Hierarchy.{Hierarchy}
use Rattle.mintc_annotate_resolve.specs.Names.{HasNames}
use Rattle.mintc_annotate_resolve.specs.Pins.{no_scope, no_leaf, scope_at, leaf_at, scope_path, leaf_path}
use Rattle.mintc_annotate_resolve.specs.Resolution.{same_path, leaf_called}
use Rattle.mintc_annotate_resolve.specs.Instances.{called, scope_called, IsFirst}
use Rattle.mintc_annotate_resolve.proofs.SharedNameLaws.{path_below}
use Rattle.mintc_annotate_resolve.proofs.SharedFirstLaws.{range_found, range_first, range_none, range_missing}

abbrev pub Path : Type 0
Path = List (List ℕ)

-- ---- equal paths
pub same_lengths : (a b : Path) → (length a ≡ length b → ⊥) → same_path a b ≡ false
same_lengths [] [] differ = absurd (differ refl)
same_lengths (x ∷ xs) (y ∷ ys) differ = ap (λ b. bytes_eq x y && b) (same_lengths xs ys (λ e. differ (ap suc e))) ∙ and-false (bytes_eq x y)
same_lengths _ _ differ = refl

pub same_self : (a : Path) → same_path a a ≡ true
same_self [] = refl
same_self (x ∷ xs) = ap (λ b. b && same_path xs xs) ((bytes_eq-Decides x x).1 refl) ∙ same_self xs

pub same_is : (a b : Path) → same_path a b ≡ true → a ≡ b
same_is [] [] h = refl
same_is (x ∷ xs) (y ∷ ys) h = let parts = and_parts (bytes_eq x y) (same_path xs ys) h in cc ((bytes_eq-Decides x y).0 parts.0, same_is xs ys parts.1)
same_is _ _ h = absurd (cc)

differ_by : (a b : Path) (t : Bool) → same_path a b ≡ t → (a ≡ b → ⊥) → same_path a b ≡ false
differ_by a b true same differ = absurd (differ (same_is a b same))
differ_by a b false same differ = same

pub same_differs : (a b : Path) → (a ≡ b → ⊥) → same_path a b ≡ false
same_differs a b differ = differ_by a b (same_path a b) refl differ

-- two paths from a name on
pub same_step : (a b : Path) (n : ℕ) → n < length a → n < length b → same_path (drop n a) (drop n b) ≡ (bytes_eq (get_or a n []) (get_or b n []) && same_path (drop (n + 1) a) (drop (n + 1) b))
same_step a b n left right = ap (λ (p : Path). same_path p (drop n b)) (drop_more a n [] left) ∙ ap (same_path (get_or a n [] ∷ drop (n + 1) a)) (drop_more b n [] right)

pub snoc_not_nil : (xs : Path) (x : List ℕ) → [] ≡ xs ++ x ∷ [] → ⊥
snoc_not_nil [] x e = cc
snoc_not_nil (a ∷ xs) x e = cc

-- a path with one more name has one front and one name
pub snoc_same : (xs ys : Path) (x y : List ℕ) → xs ++ x ∷ [] ≡ ys ++ y ∷ [] → (xs ≡ ys) × (x ≡ y)
snoc_same [] [] x y e = (refl, cc)
snoc_same [] (b ∷ ys) x y e = absurd (snoc_not_nil ys y (cc))
snoc_same (a ∷ xs) [] x y e = absurd (snoc_not_nil xs x (cc))
snoc_same (a ∷ xs) (b ∷ ys) x y e =
    let rest : xs ++ x ∷ [] ≡ ys ++ y ∷ [] = cc in
    let more = snoc_same xs ys x y rest in
    (cc, more.1)

-- ---- the first of so many
pub record IsCalled (paths : ℕ → Path) (count : ℕ) (path : Path) (i : ℕ) : Type 0 where
  pub within : i < count
  pub here : paths i ≡ path
  pub before : (k : ℕ) → k < i → same_path (paths k) path ≡ false

pub called_is : (paths : ℕ → Path) (count : ℕ) (path : Path) (i : ℕ) → called paths count path ≡ Some i → IsCalled paths count path i
called_is paths count path i found =
    let is = range_found (λ n. same_path (paths n) path) count i found in
    record { within = is.within; here = same_is (paths i) path is.here; before = is.before }

pub is_called : (paths : ℕ → Path) (count : ℕ) (path : Path) (i : ℕ) → IsCalled paths count path i → called paths count path ≡ Some i
is_called paths count path i is =
    range_first (λ n. same_path (paths n) path) count i is.within (ap (λ (p : Path). same_path p path) is.here ∙ same_self path) is.before

pub none_called : (paths : ℕ → Path) (count : ℕ) (path : Path) → ((k : ℕ) → k < count → paths k ≡ path → ⊥) → called paths count path ≡ None
none_called paths count path none = range_none (λ n. same_path (paths n) path) count (λ k below. same_differs (paths k) path (none k below))

none_at : (paths : ℕ → Path) (count : ℕ) (path : Path) (k : ℕ) → called paths count path ≡ None → k < count → paths k ≡ path → ⊥
none_at paths count path k none below same =
    let test : same_path (paths k) path ≡ false = range_missing (λ n. same_path (paths n) path) count none k below in
    let yes : same_path (paths k) path ≡ true = ap (λ (p : Path). same_path p path) same ∙ same_self path in
    cc

-- ---- scopes
pub first_of : (h : Hierarchy) (path : Path) (s : ℕ) → scope_called h path ≡ Some s → IsFirst h s
first_of h path s found =
    ap (scope_called h) (called_is (scope_path h) (length h.scopes) path s found).here ∙ found

pub one_first : (h : Hierarchy) (s t : ℕ) → IsFirst h s → IsFirst h t → scope_path h s ≡ scope_path h t → s ≡ t
one_first h s t first other same =
    let e : Some s ≡ Some t = sym first ∙ ap (scope_called h) same ∙ other in
    cc

-- a scope below the top stands in another
pub scope_stands : (h : Hierarchy) (s : ℕ) (path : Path) (name : List ℕ) → HasNames h → s < length h.scopes → scope_path h s ≡ path ++ name ∷ [] →
    ((scope_at h s).parent < length h.scopes) × (scope_path h (scope_at h s).parent ≡ path)
scope_stands h zero path name names within same = absurd (snoc_not_nil path name same)
scope_stands h (suc m) path name names within same =
    let less : (scope_at h (suc m)).parent < suc m = names.parents (suc m) no_scope (omega arith) within in
    let below : scope_path h (suc m) ≡ scope_path h (scope_at h (suc m)).parent ++ (scope_at h (suc m)).name ∷ [] = path_below h m names.parents within in
    (omega (arith, less, within), (snoc_same (scope_path h (scope_at h (suc m)).parent) path (scope_at h (suc m)).name name (sym below ∙ same)).0)

-- below no scope nothing is called
pub no_scope_below : (h : Hierarchy) (path : Path) (name : List ℕ) → HasNames h → scope_called h path ≡ None → scope_called h (path ++ name ∷ []) ≡ None
no_scope_below h path name names none =
    none_called (scope_path h) (length h.scopes) (path ++ name ∷ [])
    (λ k below same. let stands = scope_stands h k path name names below same in none_at (scope_path h) (length h.scopes) path (scope_at h k).parent none stands.0 stands.1)

pub no_leaf_below : (h : Hierarchy) (path : Path) (name : List ℕ) → HasNames h → scope_called h path ≡ None → leaf_called h (path ++ name ∷ []) ≡ None
no_leaf_below h path name names none =
    none_called (leaf_path h) (length h.leaves) (path ++ name ∷ [])
    (λ k below same. none_at (scope_path h) (length h.scopes) path (leaf_at h k).scope none (names.leaves k no_leaf below)
    (snoc_same (scope_path h (leaf_at h k).scope) path (leaf_at h k).name name same).0)

pub no_scope_along : (h : Hierarchy) (path rest : Path) → HasNames h → scope_called h path ≡ None → scope_called h (path ++ rest) ≡ None
no_scope_along h path [] names none = ap (scope_called h) (append-nil path) ∙ none
no_scope_along h path (name ∷ rest) names none =
    ap (scope_called h) (sym (append_assoc path (name ∷ []) rest)) ∙ no_scope_along h (path ++ name ∷ []) rest names (no_scope_below h path name names none)

-- ---- a step of a loop over two paths
not_true : (b : Bool) → not b ≡ true → b ≡ false
not_true b h = grind arith

not_false : (b : Bool) → not b ≡ false → b ≡ true
not_false b h = grind arith

names_at : (a b : Path) (n : ℕ) (x y : List ℕ) → n < length a → length a ≡ length b → x ≡ get_or a n x → y ≡ get_or b n y → bytes_eq (get_or a n []) (get_or b n []) ≡ bytes_eq x y
names_at a b n x y within lengths left right = rw (get_or_default a n [] x within, get_or_default b n [] y (omega (arith, within, lengths)), ← left, ← right) refl

pub differ_at : (a b : Path) (n : ℕ) (x y : List ℕ) → n < length a → length a ≡ length b → x ≡ get_or a n x → y ≡ get_or b n y → not (bytes_eq x y) ≡ true → same_path (drop n a) (drop n b) ≡ false
differ_at a b n x y within lengths left right test = rw (same_step a b n within (omega (arith, within, lengths)), names_at a b n x y within lengths left right, not_true (bytes_eq x y) test) refl

pub alike_at : (a b : Path) (n : ℕ) (x y : List ℕ) → n < length a → length a ≡ length b → x ≡ get_or a n x → y ≡ get_or b n y → not (bytes_eq x y) ≡ false →
    same_path (drop n a) (drop n b) ≡ same_path (drop (n + 1) a) (drop (n + 1) b)
alike_at a b n x y within lengths left right test = rw (same_step a b n within (omega (arith, within, lengths)), names_at a b n x y within lengths left right, not_false (bytes_eq x y) test) refl

pub alike_past : (a b : Path) (n : ℕ) → length a ≤ n → length a ≡ length b → same_path (drop n a) (drop n b) ≡ true
alike_past a b n past lengths = ap (λ (p : Path). same_path p (drop n b)) (drop_all n a past) ∙ ap (same_path []) (drop_all n b (omega (arith, past, lengths)))

-- a path by its last name
pub last_split : (path : Path) (name last : List ℕ) → 1 ≤ length path → last ≡ get_or path (length path - 1) last → name ≡ last → take (length path - 1) path ++ name ∷ [] ≡ path
last_split path name last some at is =
    ap (λ (x : List ℕ). take (length path - 1) path ++ x ∷ []) (is ∙ at) ∙ sym (take_more path (length path - 1) last (omega (arith, some)))
    ∙ ap (λ (n : ℕ). take n path) (omega (arith, some)) ∙ take_all (length path) path (omega arith)

pub no_names : (path : Path) → length path ≡ 0 → path ≡ []
no_names [] none = refl
no_names (x ∷ xs) none = absurd (omega (arith, none))

pub one_name : (path : Path) (name first : List ℕ) → 1 ≤ length path → length path - 1 ≡ 0 → first ≡ get_or path 0 first → name ≡ first → name ∷ [] ≡ path
one_name [] name first some one at is = absurd (omega (arith, some))
one_name (x ∷ []) name first some one at is = ap (λ (n : List ℕ). n ∷ []) (is ∙ at)
one_name (x ∷ y ∷ rest) name first some one at is = absurd (omega (arith, one))
