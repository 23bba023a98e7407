-- What delays at an instance annotate.
use Rattle.std.proofs.Common.{◌≡◌, ◌<◌, ◌≤◌, ◌-◌, ℕ, zero, suc, Bool, true, false, ◌||◌, cond, List, [], ◌∷◌, ◌++◌, length, take, get_or, position, Option, Some, None, is_some, IfSome, refl, sym, ap, ◌∙◌, arith, length-append}
use Rattle.std.specs.List.{list_any, range_with_len}
use Rattle.std.proofs.lemmas.Bool.{or_left, or_right}
use Rattle.std.proofs.lemmas.List.Folds.{list_any_none}
use Rattle.std.proofs.lemmas.List.{get_or_push, take-append-le, take_all}
use Rattle.mintc_sdf.specs.declared.delays.Subject.{Subject}
use Rattle.mintc_sdf.specs.declared.delays.Subject.TheVariants as subject
use Rattle.mintc_flatten_hierarchy.specs.declared.hierarchy.Hierarchy.{Hierarchy}
use Rattle.mintc_flatten_hierarchy.specs.Shape.{CellTable}
use Rattle.mintc_annotate_resolve.specs.Pins.{scope_path, leaf_path}
use Rattle.mintc_annotate_resolve.specs.Resolution.{no_instance, same_path, leaf_called, is_scope, at_pin, of_interconnect, of_instance}
use Rattle.mintc_annotate_resolve.specs.Instances.{scope_called, IsAt}
use Rattle.mintc_annotate_resolve.specs.declared.instances.Instance.{Instance}
use Rattle.mintc_annotate_resolve.specs.Lookups.{of_leaf_at}
use Rattle.std.proofs.lemmas.List.Quantifiers.{position-Some}
use Rattle.mintc_annotate_resolve.proofs.SharedFirstLaws.{position_missing}
use Rattle.mintc_annotate_resolve.proofs.SharedPathLaws.{Path, called_is}

-- ---- leaves are there
pub leaf_there : (h : Hierarchy) (path : Path) (o : Option ℕ) → o ≡ leaf_called h path → IfSome o (λ l. l < length h.leaves)
leaf_there h path None is = tt
leaf_there h path (Some l) is = (called_is (leaf_path h) (length h.leaves) path l (sym is)).within

-- ---- the end of a path
take_front : (front : Path) (name : List ℕ) → take (length (front ++ name ∷ []) - 1) (front ++ name ∷ []) ≡ front
take_front front name =
    ap (λ (n : ℕ). take n (front ++ name ∷ [])) (omega (arith, length-append front (name ∷ []))) ∙ take-append-le (length front) front (name ∷ []) (omega arith) ∙ take_all (length front) front (omega arith)

last_name : (front : Path) (name : List ℕ) → get_or (front ++ name ∷ []) (length (front ++ name ∷ []) - 1) [] ≡ name
last_name front name = get_or_push front name [] (length (front ++ name ∷ []) - 1) (omega (arith, length-append front (name ∷ [])))

pub of_snoc : (h : Hierarchy) (cells : CellTable) (front : Path) (name : List ℕ) → 1 ≤ length front → of_interconnect h cells (front ++ name ∷ []) ≡ at_pin h cells (leaf_called h front) name
of_snoc h cells [] name some = absurd (omega (arith, some))
of_snoc h cells (x ∷ []) name some = refl
of_snoc h cells (x ∷ y ∷ rest) name some =
    ap (λ (p : Path). at_pin h cells (leaf_called h p) (get_or ((x ∷ y ∷ rest) ++ name ∷ []) (length ((x ∷ y ∷ rest) ++ name ∷ []) - 1) [])) (take_front (x ∷ y ∷ rest) name)
    ∙ ap (at_pin h cells (leaf_called h (x ∷ y ∷ rest))) (last_name (x ∷ y ∷ rest) name)

-- ---- scopes
any_from : (p : ℕ → Bool) (xs : List ℕ) (i d : ℕ) → i < length xs → p (get_or xs i d) ≡ true → list_any p xs ≡ true
any_from p [] i d within here = absurd (omega (arith, within))
any_from p (x ∷ xs) zero d within here = or_left (p x) (list_any p xs) here
any_from p (x ∷ xs) (suc i) d within here = or_right (p x) (list_any p xs) (any_from p xs i d (omega (arith, within)) here)

any_by : (p : ℕ → Bool) (xs : List ℕ) (o : Option ℕ) → position p xs ≡ o → list_any p xs ≡ is_some o
any_by p xs None at = list_any_none p xs (λ k d less. position_missing p xs d at k less)
any_by p xs (Some i) at = let is = position-Some p xs i 0 at in any_from p xs i 0 is.0 is.1

pub is_scope_called : (h : Hierarchy) (path : Path) → is_scope h path ≡ is_some (scope_called h path)
is_scope_called h path = any_by (λ s. same_path (scope_path h s) path) (range_with_len 0 (length h.scopes)) (scope_called h path) refl

-- ---- a wire at an instance
wire_by : (h : Hierarchy) (cells : CellTable) (path to : Path) (leaf : Option ℕ) (b : Bool) → is_scope h path ≡ b → (is_some leaf || b) ≡ true → of_instance h cells path (subject.Interconnect to) leaf ≡ of_interconnect h cells (path ++ to)
wire_by h cells path to (Some l) b scope there = refl
wire_by h cells path to None true scope there = ap (λ (t : Bool). cond t (of_interconnect h cells (path ++ to)) no_instance) scope
wire_by h cells path to None false scope there = absurd (cc)

nothing_by : (h : Hierarchy) (cells : CellTable) (path to : Path) (leaf : Option ℕ) (b : Bool) → is_scope h path ≡ b → (is_some leaf || b) ≡ false → of_instance h cells path (subject.Interconnect to) leaf ≡ no_instance
nothing_by h cells path to None false scope there = ap (λ (t : Bool). cond t (of_interconnect h cells (path ++ to)) no_instance) scope
nothing_by h cells path to _ _ scope there = absurd (cc)

there_is : (h : Hierarchy) (path : Path) (i : Instance) (b : Bool) → IsAt h path i → b ≡ (is_some i.leaf || is_some i.scope) → (is_some (leaf_called h path) || is_scope h path) ≡ b
there_is h path i b at is =
    ap (λ (t : Bool). is_some (leaf_called h path) || t) (is_scope_called h path ∙ ap is_some (sym at.scope)) ∙ ap (λ (o : Option ℕ). is_some o || is_some i.scope) (sym at.leaf) ∙ sym is

pub wire_there : (h : Hierarchy) (cells : CellTable) (path to : Path) (i : Instance) (b : Bool) → IsAt h path i → b ≡ (is_some i.leaf || is_some i.scope) → b ≡ true →
    of_interconnect h cells (path ++ to) ≡ of_instance h cells path (subject.Interconnect to) (leaf_called h path)
wire_there h cells path to i b at is found = sym (wire_by h cells path to (leaf_called h path) (is_scope h path) refl (there_is h path i b at is ∙ found))

pub wire_nowhere : (h : Hierarchy) (cells : CellTable) (path to : Path) (i : Instance) (b : Bool) → IsAt h path i → b ≡ (is_some i.leaf || is_some i.scope) → b ≡ false →
    no_instance ≡ of_instance h cells path (subject.Interconnect to) (leaf_called h path)
wire_nowhere h cells path to i b at is found = sym (nothing_by h cells path to (leaf_called h path) (is_scope h path) refl (there_is h path i b at is ∙ found))

-- ---- other delays at an instance
abbrev pub IsNoWire : Subject → Type 0
IsNoWire s = (to : Path) → s ≡ subject.Interconnect to → ⊥

pub other_at : (h : Hierarchy) (cells : CellTable) (path : Path) (s : Subject) (o : Option ℕ) → IsNoWire s → of_leaf_at h cells s o ≡ of_instance h cells path s o
other_at h cells path (subject.Interconnect to) o none = absurd (none to refl)
other_at h cells path _ None none = refl
other_at h cells path _ (Some l) none = refl
