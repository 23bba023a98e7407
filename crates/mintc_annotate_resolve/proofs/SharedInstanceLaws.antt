-- What an index of instances has, as it grows, and how a path is walked by it.
use Rattle.std.proofs.Common.{◌≡◌, ◌<◌, ◌≤◌, ◌+◌, ◌/◌, ◌%◌, ℕ, zero, suc, Bool, true, false, cond, List, [], ◌∷◌, ◌++◌, length, length-append, ⊎_elim, slice_index_or, bytes_eq, Option, Some, None, unwrap_or, refl, sym, ap, ◌∙◌, subst, arith, Vec, Global}
use Rattle.std.specs.Option.{option_or}
use Rattle.std.specs.HashMap.{HashMap}
use Rattle.std.proofs.lemmas.Slice.Eq.{bytes_eq-Decides}
use Rattle.std.proofs.lemmas.Bool.{cases_eq}
use Rattle.std.proofs.lemmas.List.{get_or_append_left, get_or_push, get_or_default}
use Rattle.mintc_flatten_hierarchy.specs.declared.hierarchy.Hierarchy.{Hierarchy}
use Rattle.mintc_flatten_hierarchy.specs.declared.hierarchy.Scope.{Scope}
use Rattle.mintc_flatten_hierarchy.specs.declared.hierarchy.Leaf.{Leaf}
use Rattle.mintc_annotate_resolve.specs.Names.{HasNames}
use Rattle.mintc_annotate_resolve.specs.Pins.{scope_at, leaf_at, scope_path, leaf_path}
use Rattle.mintc_annotate_resolve.specs.Resolution.{same_path, leaf_called}
use Rattle.mintc_annotate_resolve.specs.Instances.{key_of, IsKey, seen, called, scope_called, IsFirst, AreFirst, AreSeen, IsAt}
use Rattle.mintc_annotate_resolve.proofs.SharedFirstLaws.{range_more}
use Rattle.mintc_annotate_resolve.proofs.SharedPathLaws.{Path, same_self, same_differs, snoc_same, snoc_not_nil, called_is, is_called, none_called, first_of, one_first}
use Rattle.mintc_annotate_resolve.proofs.SharedNameLaws.{path_below}

-- ---- keys
key_parts : (s t : ℕ) (n m : List ℕ) → key_of s n ≡ key_of t m → (s ≡ t) × (n ≡ m)
key_parts s t n m e =
    let first : s % 256 ≡ t % 256 = cc in
    let second : s / 256 % 256 ≡ t / 256 % 256 = cc in
    let third : s / 256 / 256 % 256 ≡ t / 256 / 256 % 256 = cc in
    let fourth : s / 256 / 256 / 256 ≡ t / 256 / 256 / 256 = cc in
    (omega (arith, first, second, third, fourth), cc)

pub key_is : (s t : ℕ) (n m : List ℕ) → bytes_eq (key_of s n) (key_of t m) ≡ true → (s ≡ t) × (n ≡ m)
key_is s t n m test = key_parts s t n m ((bytes_eq-Decides (key_of s n) (key_of t m)).0 test)

-- ---- one more number
or_some : (o : Option ℕ) (n : ℕ) → Some (unwrap_or o n) ≡ option_or o (Some n)
or_some o n = grind arith

or_none : (o : Option ℕ) → o ≡ option_or o None
or_none o = grind arith

-- the first of one more
pub called_more : (paths : ℕ → Path) (n : ℕ) (path : Path) → called paths (n + 1) path ≡ option_or (called paths n path) (cond (same_path (paths n) path) (Some n) None)
called_more paths n path = range_more (λ k. same_path (paths k) path) n (called paths n path) (same_path (paths n) path) refl refl

pub called_new : (paths : ℕ → Path) (n r : ℕ) → r ≡ unwrap_or (called paths n (paths n)) n → called paths (n + 1) (paths n) ≡ Some r
called_new paths n r is = rw (called_more paths n (paths n), same_self (paths n), is) (sym (or_some (called paths n (paths n)) n))

-- at another path nothing changes
pub called_old : (paths : ℕ → Path) (n : ℕ) (path : Path) → (paths n ≡ path → ⊥) → called paths n path ≡ called paths (n + 1) path
called_old paths n path differ = rw (called_more paths n path, same_differs (paths n) path differ) (or_none (called paths n path))

module _ {S : Type 0} where
  more_at : (h : Hierarchy) (paths : ℕ → Path) (n : ℕ) (old new : HashMap (Vec ℕ Global) ℕ S) (s : ℕ) (name : List ℕ) (r : ℕ) → AreSeen h paths n old → IsFirst h s → paths n ≡ scope_path h s ++ name ∷ [] →
      IsKey (key_of s name) → r ≡ unwrap_or (seen old (key_of s name)) n → (t : ℕ) → IsFirst h t → (other : List ℕ) → IsKey (key_of t other) → (b : Bool) → bytes_eq (key_of s name) (key_of t other) ≡ b →
      cond b (Some r) (seen old (key_of t other)) ≡ called paths (n + 1) (scope_path h t ++ other ∷ [])
  more_at h paths n old new s name r are first at key is t t_first other its true test =
      let same = key_is s t name other test in
      let path : scope_path h s ++ name ∷ [] ≡ scope_path h t ++ other ∷ [] = ap (λ (k : ℕ). scope_path h k ++ name ∷ []) same.0 ∙ ap (λ (m : List ℕ). scope_path h t ++ m ∷ []) same.1 in
      let found : seen old (key_of s name) ≡ called paths n (paths n) = are s first name key ∙ ap (called paths n) (sym at) in
      sym (called_new paths n r (is ∙ ap (λ (o : Option ℕ). unwrap_or o n) found)) ∙ ap (called paths (n + 1)) (at ∙ path)
  more_at h paths n old new s name r are first at key is t t_first other its false test =
      are t t_first other its
      ∙ called_old paths n (scope_path h t ++ other ∷ [])
      (λ e.
      let parts = snoc_same (scope_path h s) (scope_path h t) name other (sym at ∙ e) in
      let scope : s ≡ t = one_first h s t first t_first parts.0 in
      let yes : bytes_eq (key_of s name) (key_of t other) ≡ true =
      (bytes_eq-Decides (key_of s name) (key_of t other)).1 (ap (λ (k : ℕ). key_of k name) scope ∙ ap (key_of t) parts.1) in
      cc)

  pub seen_more : (h : Hierarchy) (paths : ℕ → Path) (n : ℕ) (old new : HashMap (Vec ℕ Global) ℕ S) (s : ℕ) (name : List ℕ) (r : ℕ) → AreSeen h paths n old → IsFirst h s → paths n ≡ scope_path h s ++ name ∷ [] →
      IsKey (key_of s name) → r ≡ unwrap_or (seen old (key_of s name)) n → ((k : List ℕ) → IsKey k → seen new k ≡ cond (bytes_eq (key_of s name) k) (Some r) (seen old k)) → AreSeen h paths (n + 1) new
  seen_more h paths n old new s name r are first at key is step t t_first other its =
      step (key_of t other) its ∙ more_at h paths n old new s name r are first at key is t t_first other its (bytes_eq (key_of s name) (key_of t other)) refl

  -- of the scopes, the one that is noted is the first that has its path
  pub noted_first : (h : Hierarchy) (n : ℕ) (old : HashMap (Vec ℕ Global) ℕ S) (s : ℕ) (name : List ℕ) (r : ℕ) → AreSeen h (scope_path h) n old → IsFirst h s → scope_path h n ≡ scope_path h s ++ name ∷ [] → n < length h.scopes →
      IsKey (key_of s name) → r ≡ unwrap_or (seen old (key_of s name)) n → scope_called h (scope_path h n) ≡ Some r
  noted_first h n old s name r are first at within key is =
      let found : seen old (key_of s name) ≡ called (scope_path h) n (scope_path h n) = are s first name key ∙ ap (called (scope_path h) n) (sym at) in
      let known = called_is (scope_path h) (n + 1) (scope_path h n) r (called_new (scope_path h) n r (is ∙ ap (λ (o : Option ℕ). unwrap_or o n) found)) in
      is_called (scope_path h) (length h.scopes) (scope_path h n) r (record { within = omega (arith, known.within, within); here = known.here; before = known.before })

-- ---- scopes by the first that has their path
pub record StandsFor (h : Hierarchy) (f s : ℕ) : Type 0 where
  pub first : IsFirst h f
  pub within : f < length h.scopes
  pub path : scope_path h f ≡ scope_path h s

pub stands_for : (h : Hierarchy) (count : ℕ) (firsts : List ℕ) (s f : ℕ) → AreFirst h count firsts → s < count → f ≡ slice_index_or firsts s f → StandsFor h f s
stands_for h count firsts s f are below is =
    let at : slice_index_or firsts s 0 ≡ f = get_or_default firsts s 0 f (omega (arith, below, are.size)) ∙ sym is in
    let found : scope_called h (scope_path h s) ≡ Some f = are.each s below ∙ ap Some at in
    let known = called_is (scope_path h) (length h.scopes) (scope_path h s) f found in
    record { first = first_of h (scope_path h s) f found; within = known.within; path = known.here }

pub scope_path_at : (h : Hierarchy) (n f : ℕ) (scope : Scope) → HasNames h → 1 ≤ n → n < length h.scopes → scope_at h n ≡ scope → StandsFor h f scope.parent → scope_path h n ≡ scope_path h f ++ scope.name ∷ []
scope_path_at h zero f scope names some within at stands = absurd (omega (arith, some))
scope_path_at h (suc m) f scope names some within at stands =
    path_below h m names.parents within ∙ ap (λ (x : Scope). scope_path h x.parent ++ x.name ∷ []) at ∙ ap (λ (p : Path). p ++ scope.name ∷ []) (sym stands.path)

pub leaf_path_at : (h : Hierarchy) (n f : ℕ) (leaf : Leaf) → leaf_at h n ≡ leaf → StandsFor h f leaf.scope → leaf_path h n ≡ scope_path h f ++ leaf.name ∷ []
leaf_path_at h n f leaf at stands = ap (λ (x : Leaf). scope_path h x.scope ++ x.name ∷ []) at ∙ ap (λ (p : Path). p ++ leaf.name ∷ []) (sym stands.path)

pub first_push : (h : Hierarchy) (n r : ℕ) (firsts : List ℕ) → AreFirst h n firsts → scope_called h (scope_path h n) ≡ Some r → AreFirst h (n + 1) (firsts ++ r ∷ [])
first_push h n r firsts are found = record {
  size = length-append firsts (r ∷ []) ∙ ap (λ (k : ℕ). k + 1) are.size;
  each = λ s below. ⊎_elim
      (λ last. ap (λ (k : ℕ). scope_called h (scope_path h k)) last ∙ found ∙ ap Some (sym (get_or_push firsts r 0 s (are.size ∙ sym last))))
      (λ other.
      let less : s < n = omega (arith, below, other) in
      are.each s less ∙ ap Some (sym (get_or_append_left firsts (r ∷ []) 0 s (omega (arith, less, are.size)))))
      (cases_eq s n);
}

pub top_called : (h : Hierarchy) → 1 ≤ length h.scopes → scope_called h [] ≡ Some 0
top_called h some = is_called (scope_path h) (length h.scopes) [] 0 (record { within = omega (arith, some); here = refl; before = λ k less. absurd (omega (arith, less)) })

pub top_first : (h : Hierarchy) → 1 ≤ length h.scopes → AreFirst h 1 (0 ∷ [])
top_first h some = record {
  size = refl;
  each = λ s below.
      let top : s ≡ 0 = omega (arith, below) in
      subst (λ (k : ℕ). scope_called h (scope_path h k) ≡ Some (slice_index_or (0 ∷ []) k 0)) (sym top) (top_called h some);
}

pub none_in_top : (h : Hierarchy) (path : Path) (name : List ℕ) → called (scope_path h) 1 (path ++ name ∷ []) ≡ None
none_in_top h path name = none_called (scope_path h) 1 (path ++ name ∷ []) (λ k below same.
    let top : k ≡ 0 = omega (arith, below) in
    snoc_not_nil path name (ap (scope_path h) (sym top) ∙ same))

-- ---- one more key
module _ {S : Type 0} where
  kept_at : (m : HashMap (Vec ℕ Global) ℕ S) (key k : List ℕ) (n : ℕ) (b : Bool) → bytes_eq key k ≡ b → seen m key ≡ Some n → seen m k ≡ cond b (Some n) (seen m k)
  kept_at m key k n true same there = subst (λ (l : List ℕ). seen m l ≡ Some n) ((bytes_eq-Decides key k).0 same) there
  kept_at m key k n false same there = refl

  -- a key that is there stays
  pub kept_key : (m : HashMap (Vec ℕ Global) ℕ S) (key k : List ℕ) (n : ℕ) → seen m key ≡ Some n → seen m k ≡ cond (bytes_eq key k) (Some n) (seen m k)
  kept_key m key k n there = kept_at m key k n (bytes_eq key k) refl there

  -- one that isn't is put in
  pub put_key : (old new : HashMap (Vec ℕ Global) ℕ S) (key : Vec ℕ Global) (n : ℕ) → ((q : Vec ℕ Global) → seen new q.items ≡ cond (bytes_eq key.items q.items) (Some n) (seen old q.items)) →
      (wanted : List ℕ) → key.items ≡ wanted → (k : List ℕ) → IsKey k → seen new k ≡ cond (bytes_eq wanted k) (Some n) (seen old k)
  put_key old new key n step wanted is k its =
      subst (λ (l : List ℕ). seen new l ≡ cond (bytes_eq wanted l) (Some n) (seen old l)) its.1 (step its.0 ∙ ap (λ (w : List ℕ). cond (bytes_eq w its.0.items) (Some n) (seen old its.0.items)) is)

-- ---- from a path to one more name
module _ {S : Type 0} where
  pub step_down : (h : Hierarchy) (paths : ℕ → Path) (count : ℕ) (m : HashMap (Vec ℕ Global) ℕ S) (base : Path) (s : ℕ) (name : List ℕ) → AreSeen h paths count m → Some s ≡ scope_called h base → IsKey (key_of s name) →
      seen m (key_of s name) ≡ called paths count (base ++ name ∷ [])
  step_down h paths count m base s name are at key =
      are s (first_of h base s (sym at)) name key
      ∙ ap (λ (p : Path). called paths count (p ++ name ∷ [])) (called_is (scope_path h) (length h.scopes) base s (sym at)).here

-- ---- the top
pub no_leaf_at_top : (h : Hierarchy) → leaf_called h [] ≡ None
no_leaf_at_top h = none_called (leaf_path h) (length h.leaves) [] (λ k below same. snoc_not_nil (scope_path h (leaf_at h k).scope) (leaf_at h k).name (sym same))

pub at_top : (h : Hierarchy) → 1 ≤ length h.scopes → IsAt h [] (record { scope = Some 0; leaf = None })
at_top h some = record { scope = sym (top_called h some); leaf = sym (no_leaf_at_top h) }
