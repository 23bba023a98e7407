-- Names by their fronts.
use Rattle.std.proofs.Common.{◌≡◌, ◌≢◌, ◌<◌, ◌≤◌, ◌+◌, ◌==◌, ℕ, zero, suc, Bool, true, false, cond, List, [], ◌∷◌, ◌++◌, length, slice_index_or, refl, sym, ap, ◌∙◌, arith, append_assoc, append-nil, ⊎_elim, length-append, Option}
use Rattle.std.proofs.lemmas.Bool.{cases_eq, eq-eqb, ne_eqb}
use Rattle.std.proofs.lemmas.List.{get_or_append_left, get_or_push}
use Rattle.std.proofs.lemmas.Grind.{flat_map-append}
use Rattle.mintc_flatten_hierarchy.specs.declared.hierarchy.Hierarchy.{Hierarchy}
use Rattle.mintc_flatten_hierarchy.specs.declared.hierarchy.Scope.{Scope}
use Rattle.mintc_annotate_resolve.specs.Names.{front_of, AreFronts, next_front}
use Rattle.mintc_flatten_hierarchy.specs.declared.hierarchy.Leaf.{Leaf}
use Rattle.mintc_flatten_hierarchy.specs.declared.hierarchy.Inner.TheVariants.{Net, Pin}
use Rattle.mintc_annotate_resolve.specs.Pins.{dotted, scope_at, no_scope, path_within, scope_path, leaf_at, index_text, inner_name}

-- a path with one more name is that name after the path's front
pub dotted_push : (path : List (List ℕ)) (name : List ℕ) → dotted (path ++ name ∷ []) ≡ front_of path ++ name
dotted_push [] name = refl
dotted_push (a ∷ []) name = sym (append_assoc a (46 ∷ []) name) ∙ ap (λ l. l ++ name) (sym (append-nil (a ++ 46 ∷ [])))
dotted_push (a ∷ b ∷ path) name = ap (λ l. a ++ (46 ∷ l)) (dotted_push (b ∷ path) name) ∙ sym (append_assoc a (46 ∷ []) (front_of (b ∷ path) ++ name)) ∙ sym (append_assoc (a ++ 46 ∷ []) (front_of (b ∷ path)) name)

abbrev pub HasParents : Hierarchy → Type 0
HasParents h = (s : ℕ) (d : Scope) → 1 ≤ s → s < length h.scopes → (slice_index_or h.scopes s d).parent < s

-- more steps than are needed lead to the same path
alike : (test : Bool) (a b : List (List ℕ)) (name : List ℕ) → (test ≡ false → a ≡ b) → cond test [] (a ++ name ∷ []) ≡ cond test [] (b ++ name ∷ [])
alike true a b name same = refl
alike false a b name same = ap (λ l. l ++ name ∷ []) (same refl)

at_top : (h : Hierarchy) (n s : ℕ) → s ≡ 0 → path_within h n s ≡ []
at_top h zero s top = refl
at_top h (suc n) s top = rw top refl

pub enough : (h : Hierarchy) (n m s : ℕ) → HasParents h → s < length h.scopes → s ≤ n → s ≤ m → path_within h n s ≡ path_within h m s
enough h zero m s parents within low high = sym (at_top h m s (omega (arith, low)))
enough h (suc n) zero s parents within low high = at_top h (suc n) s (omega (arith, high))
enough h (suc n) (suc m) s parents within low high =
    alike (s == 0) (path_within h n (scope_at h s).parent) (path_within h m (scope_at h s).parent) (scope_at h s).name
    (λ below.
    let some : s ≢ 0 = λ top. absurd (let yes = eq-eqb s 0 top in cc) in
    let less = parents s no_scope (omega (arith, some)) within in
    enough h n m (scope_at h s).parent parents (omega (arith, less, within)) (omega (arith, less, low)) (omega (arith, less, high)))

not_top : (m : ℕ) → (suc m == 0) ≡ false
not_top m = ne_eqb (suc m) 0 (λ e. omega (arith, e))

-- the path of a scope below the top
pub path_below : (h : Hierarchy) (m : ℕ) → HasParents h → suc m < length h.scopes → scope_path h (suc m) ≡ scope_path h (scope_at h (suc m)).parent ++ (scope_at h (suc m)).name ∷ []
path_below h m parents within =
    let less = parents (suc m) no_scope (omega arith) within in
    ap (λ (t : Bool). cond t [] (path_within h m (scope_at h (suc m)).parent ++ (scope_at h (suc m)).name ∷ [])) (not_top m)
    ∙ ap (λ l. l ++ (scope_at h (suc m)).name ∷ []) (enough h m (scope_at h (suc m)).parent (scope_at h (suc m)).parent parents (omega (arith, less, within)) (omega (arith, less)) (omega arith))

-- a front and one more name
pub front_push : (path : List (List ℕ)) (name : List ℕ) → front_of (path ++ name ∷ []) ≡ front_of path ++ (name ++ 46 ∷ [])
front_push path name = flat_map-append (λ n. n ++ 46 ∷ []) path (name ∷ []) ∙ ap (λ l. front_of path ++ l) (append-nil (name ++ 46 ∷ []))

-- the next front is that of the next scope
next_is : (h : Hierarchy) (fronts : List (List ℕ)) (number : ℕ) → HasParents h → AreFronts h number fronts → number < length h.scopes → next_front fronts number (scope_at h number) ≡ front_of (scope_path h number)
next_is h fronts zero parents are within = refl
next_is h fronts (suc m) parents are within =
    let less = parents (suc m) no_scope (omega arith) within in
    rw (path_below h m parents within, front_push, not_top m, are.each (scope_at h (suc m)).parent less, append_assoc) refl

pub fronts_push : (h : Hierarchy) (fronts : List (List ℕ)) (number : ℕ) (name : List ℕ) → HasParents h → AreFronts h number fronts → number < length h.scopes → name ≡ next_front fronts number (scope_at h number) →
    AreFronts h (number + 1) (fronts ++ name ∷ [])
fronts_push h fronts number name parents are within same = record {
  size = length-append fronts (name ∷ []) ∙ ap (λ (n : ℕ). n + 1) are.size;
  each = λ s below. ⊎_elim
      (λ last. get_or_push fronts name [] s (are.size ∙ sym last) ∙ same ∙ next_is h fronts number parents are within ∙ ap (λ (n : ℕ). front_of (scope_path h n)) (sym last))
      (λ other.
      let less : s < number = omega (arith, below, other) in
      get_or_append_left fronts (name ∷ []) [] s (omega (arith, less, are.size)) ∙ are.each s less)
      (cases_eq s number);
}

-- what bits are called, by fronts
pub net_called : (h : Hierarchy) (scope : ℕ) (name : List ℕ) (index : Option ℕ) (front : List ℕ) → front ≡ front_of (scope_path h scope) → front ++ name ++ index_text index ≡ inner_name h (Net scope name index)
net_called h scope name index front same =
    append_assoc front name (index_text index) ∙ ap (λ l. l ++ (name ++ index_text index)) same ∙ sym (dotted_push (scope_path h scope) (name ++ index_text index))

pub pin_called : (h : Hierarchy) (l : ℕ) (leaf : Leaf) (pin front : List ℕ) → leaf_at h l ≡ leaf → front ≡ front_of (scope_path h leaf.scope) → (front ++ leaf.name ++ 46 ∷ []) ++ pin ++ [] ≡ inner_name h (Pin l pin)
pin_called h l leaf pin front at same =
    append-nil ((front ++ leaf.name ++ 46 ∷ []) ++ pin)
    ∙ ap (λ k. k ++ pin) (append_assoc front leaf.name (46 ∷ []) ∙ ap (λ k. k ++ (leaf.name ++ 46 ∷ [])) same ∙ sym (front_push (scope_path h leaf.scope) leaf.name))
    ∙ sym (dotted_push (scope_path h leaf.scope ++ leaf.name ∷ []) pin)
    ∙ ap (λ (x : Leaf). dotted ((scope_path h x.scope ++ x.name ∷ []) ++ pin ∷ [])) (sym at)
