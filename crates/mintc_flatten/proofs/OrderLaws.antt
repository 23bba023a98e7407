-- In an order of modules, the counts of each follow from those of the modules that it instantiates.
use Rattle.std.proofs.Common.{◌≡◌, ℕ, zero, suc, ◌<◌, ◌≤◌, List, [], ◌∷◌, length, slice_index, max, add-zero, refl, sym, ap, ◌∙◌, subst, arith}
use Rattle.std.specs.List.{AllByRecursion}
use Rattle.mintc_flatten_hierarchy.specs.declared.bindings.Binding.{Binding}
use Rattle.mintc_flatten_hierarchy.specs.declared.bindings.Binding.TheVariants.{OfCell, OfModule, OfNothing}
use Rattle.mintc_flatten_hierarchy.specs.Sources.{Source, module_at, cell_at, pins_of, bindings_in}
use Rattle.mintc_flatten_hierarchy.specs.Walks.{Counts, counts, plus, size_of, deepest, depth}
use Rattle.mintc_flatten.specs.Totals.{sum_of, content, all_in, part, sum_parts}
use Rattle.mintc_flatten_binding.specs.Orders.{Stands, IsOrder}

-- two depths at which the modules of an order have the same inside
abbrev Same : Source → List ℕ → ℕ → ℕ → ℕ → Type 0
Same s order i a b = (j : ℕ) → j < i → content s a (OfModule (slice_index order j)) ≡ content s b (OfModule (slice_index order j))

no_content : (s : Source) (a b n : ℕ) → content s a (OfCell n) ≡ content s b (OfCell n)
no_content s zero zero n = refl
no_content s zero (suc b) n = refl
no_content s (suc a) zero n = refl
no_content s (suc a) (suc b) n = refl

nothing_inside : (s : Source) (a b : ℕ) → content s a OfNothing ≡ content s b OfNothing
nothing_inside s zero zero = refl
nothing_inside s zero (suc b) = refl
nothing_inside s (suc a) zero = refl
nothing_inside s (suc a) (suc b) = refl

same_content : (s : Source) (order : List ℕ) (i a b : ℕ) → Same s order i a b → (t : Binding) → Stands order i t → content s a t ≡ content s b t
same_content s order i a b same (OfCell n) stands = no_content s a b n
same_content s order i a b same OfNothing stands = nothing_inside s a b
same_content s order i a b same (OfModule k) (j, before, is) = subst (λ (n : ℕ). content s a (OfModule n) ≡ content s b (OfModule n)) is (same j before)

same_sum : (s : Source) (order : List ℕ) (i a b : ℕ) → Same s order i a b → (ts : List Binding) → AllByRecursion (Stands order i) ts → sum_of s (content s a) ts ≡ sum_of s (content s b) ts
same_sum s order i a b same [] h = refl
same_sum s order i a b same (t ∷ ts) h =
    ap (λ (c : Counts). plus (plus (size_of s t) c) (sum_of s (content s a) ts)) (same_content s order i a b same t h.0)
    ∙ ap (plus (plus (size_of s t) (content s b t))) (same_sum s order i a b same ts h.1)

-- the module at place i of an order has all inside at depth i + 1
settled : (s : Source) (order : List ℕ) → IsOrder s order → (bound i deep : ℕ) → i < length order → i < deep → deep ≤ bound →
    content s deep (OfModule (slice_index order i)) ≡ content s (suc i) (OfModule (slice_index order i))
settled s order h zero i deep inside below most = absurd (omega arith)
settled s order h (suc bound) i zero inside below most = absurd (omega arith)
settled s order h (suc bound) i (suc d) inside below most =
    same_sum s order i d i
    (λ j before.
    let at_j : j < length order = omega arith in
    let in_d : j < d = omega arith in
    let d_most : d ≤ bound = omega arith in
    let i_most : i ≤ bound = omega arith in
    settled s order h bound j d at_j in_d d_most ∙ sym (settled s order h bound j i at_j before i_most))
    (bindings_in s (module_at s (slice_index order i))) (h.behind i inside)

pub content_settled : (s : Source) (order : List ℕ) → IsOrder s order → (i a b : ℕ) → i < length order → i < a → i < b →
    content s a (OfModule (slice_index order i)) ≡ content s b (OfModule (slice_index order i))
content_settled s order h i a b inside below other =
    let x : a ≤ max a b = omega arith in let y : b ≤ max a b = omega arith in
    settled s order h (max a b) i a inside below x ∙ sym (settled s order h (max a b) i b inside other y)

-- a sum of parts
part_is : (s : Source) (order : List ℕ) → IsOrder s order → (i : ℕ) → i < length order → (t : Binding) → Stands order i t → plus (size_of s t) (content s (length s.modules) t) ≡ part s t
part_is s order h i inside (OfCell n) stands =
    ap (plus (size_of s (OfCell n))) (no_content s (length s.modules) zero n)
    ∙ ap (counts 0 1) (add-zero (length (pins_of (cell_at s n))))
part_is s order h i inside OfNothing stands = ap (plus (counts 0 0 0)) (nothing_inside s (length s.modules) zero)
part_is s order h i inside (OfModule k) (j, before, is) =
    let few = h.few in
    let at_j : j < length order = omega arith in
    let a : j < length s.modules = omega arith in
    let b : j < suc (length s.modules) = omega arith in
    subst (λ (n : ℕ). plus (size_of s (OfModule n)) (content s (length s.modules) (OfModule n)) ≡ all_in s n) is
    (ap (plus (size_of s (OfModule (slice_index order j)))) (content_settled s order h j (length s.modules) (suc (length s.modules)) at_j a b))

parts_are : (s : Source) (order : List ℕ) → IsOrder s order → (i : ℕ) → i < length order → (ts : List Binding) → AllByRecursion (Stands order i) ts →
    sum_of s (content s (length s.modules)) ts ≡ sum_parts s ts
parts_are s order h i inside [] all = refl
parts_are s order h i inside (t ∷ ts) all =
    ap (λ (c : Counts). plus c (sum_of s (content s (length s.modules)) ts)) (part_is s order h i inside t all.0)
    ∙ ap (plus (part s t)) (parts_are s order h i inside ts all.1)

-- a module of an order has its own nets and the parts of its items
pub all_in-parts : (s : Source) (order : List ℕ) → IsOrder s order → (i : ℕ) → i < length order →
    all_in s (slice_index order i) ≡ plus (size_of s (OfModule (slice_index order i))) (sum_parts s (bindings_in s (module_at s (slice_index order i))))
all_in-parts s order h i inside =
    ap (plus (size_of s (OfModule (slice_index order i)))) (parts_are s order h i inside (bindings_in s (module_at s (slice_index order i))) (h.behind i inside))

-- the same of depths
abbrev Level : Source → List ℕ → ℕ → ℕ → ℕ → Type 0
Level s order i a b = (j : ℕ) → j < i → depth s a (slice_index order j) ≡ depth s b (slice_index order j)

same_deepest : (s : Source) (order : List ℕ) (i a b : ℕ) → Level s order i a b → (ts : List Binding) → AllByRecursion (Stands order i) ts → deepest (depth s a) ts ≡ deepest (depth s b) ts
same_deepest s order i a b same [] h = refl
same_deepest s order i a b same (OfCell n ∷ ts) h = same_deepest s order i a b same ts h.1
same_deepest s order i a b same (OfNothing ∷ ts) h = same_deepest s order i a b same ts h.1
same_deepest s order i a b same (OfModule k ∷ ts) ((j, before, is), more) =
    let here : depth s a k ≡ depth s b k = subst (λ (n : ℕ). depth s a n ≡ depth s b n) is (same j before) in
    ap (λ (n : ℕ). max n (deepest (depth s a) ts)) here ∙ ap (max (depth s b k)) (same_deepest s order i a b same ts more)

level : (s : Source) (order : List ℕ) → IsOrder s order → (bound i deep : ℕ) → i < length order → i < deep → deep ≤ bound → depth s deep (slice_index order i) ≡ depth s (suc i) (slice_index order i)
level s order h zero i deep inside below most = absurd (omega arith)
level s order h (suc bound) i zero inside below most = absurd (omega arith)
level s order h (suc bound) i (suc d) inside below most =
    ap suc (same_deepest s order i d i
    (λ j before.
    let at_j : j < length order = omega arith in
    let in_d : j < d = omega arith in
    let d_most : d ≤ bound = omega arith in
    let i_most : i ≤ bound = omega arith in
    level s order h bound j d at_j in_d d_most ∙ sym (level s order h bound j i at_j before i_most))
    (bindings_in s (module_at s (slice_index order i))) (h.behind i inside))

-- a module of an order is one deeper than the deepest of its items
pub depth-parts : (s : Source) (order : List ℕ) → IsOrder s order → (i : ℕ) → i < length order →
    depth s (length s.modules) (slice_index order i) ≡ suc (deepest (depth s (length s.modules)) (bindings_in s (module_at s (slice_index order i))))
depth-parts s order h i inside =
    let few = h.few in
    let a : i < length s.modules = omega arith in
    let b : i < suc (length s.modules) = omega arith in
    let c : length s.modules ≤ suc (length s.modules) = omega arith in
    let d : suc (length s.modules) ≤ suc (length s.modules) = omega arith in
    level s order h (suc (length s.modules)) i (length s.modules) inside a c ∙ sym (level s order h (suc (length s.modules)) i (suc (length s.modules)) inside b d)
