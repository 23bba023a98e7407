-- Counts that are capped, one binding at a time.
use Rattle.std.proofs.Common.{◌≡◌, ◌≢◌, ◌⊎◌, inl, inr, ℕ, zero, suc, ◌+◌, ◌<◌, ◌≤◌, map, slice_index, get_or, set, get_or-set_same, get_or-set_other, List, [], ◌∷◌, ◌++◌, length, max, refl, sym, ap, ◌∙◌, subst, arith}
use Rattle.std.specs.List.{All, AllByRecursion}
use Rattle.std.proofs.lemmas.Bool.{cases_eq}
use Rattle.std.proofs.lemmas.List.Elements.{All-from_recursion}
use Rattle.mintc_cells.specs.Rules.{pins}
use Rattle.mintc_netlist.specs.declared.module.Item.{Item}
use Rattle.mintc_netlist.specs.Nets.{nets_of}
use Rattle.mintc_flatten_hierarchy.specs.declared.bindings.Binding.{Binding}
use Rattle.mintc_flatten_hierarchy.specs.declared.bindings.Binding.TheVariants.{OfCell, OfModule, OfNothing}
use Rattle.mintc_flatten.specs.declared.counts.Count.{Count}
use Rattle.mintc_flatten_hierarchy.specs.Sources.{Source, module_at, cell_at, binding_in, bindings_in}
use Rattle.mintc_flatten_hierarchy.specs.Walks.{Counts, counts, plus, deepest, depth}
use Rattle.mintc_flatten.specs.Totals.{part, sum_parts, capped, IsCapped, IsCount, no_count, IsCounted, AreCounted, depth_of, greatest_depth}
use Rattle.mintc_flatten_binding.specs.Orders.{IsThere, Stands, IsOrder}
use Rattle.mintc_flatten_binding.proofs.SharedThereLaws.{there}
use Rattle.mintc_flatten.proofs.OrderLaws.{all_in-parts, depth-parts}
use Rattle.mintc_flatten_hierarchy.proofs.SharedOrderedLaws.{plus_assoc, none_plus, plus_none}
use Rattle.mintc_flatten_hierarchy.proofs.SharedLengthLaws.{length-pins_of}

pub capped_sum : (a b : ℕ) → capped (capped a + capped b) ≡ capped (a + b)
capped_sum a b = omega arith

pub parts-push : (s : Source) (ts : List Binding) (t : Binding) → sum_parts s (ts ++ t ∷ []) ≡ plus (sum_parts s ts) (part s t)
parts-push s [] t = plus_none (part s t) ∙ sym (none_plus (part s t))
parts-push s (x ∷ ts) t = ap (plus (part s x)) (parts-push s ts t) ∙ sym (plus_assoc (part s x) (sum_parts s ts) (part s t))

max_assoc : (a b c : ℕ) → max a (max b c) ≡ max (max a b) c
max_assoc a b c = omega arith

pub depth-push : (s : Source) (ts : List Binding) (t : Binding) → greatest_depth s (ts ++ t ∷ []) ≡ max (greatest_depth s ts) (depth_of s t)
depth-push s [] (OfCell n) = refl
depth-push s [] (OfModule k) = omega arith
depth-push s [] OfNothing = refl
depth-push s (OfCell n ∷ ts) t = depth-push s ts t
depth-push s (OfNothing ∷ ts) t = depth-push s ts t
depth-push s (OfModule k ∷ ts) t = ap (max (depth s (length s.modules) k)) (depth-push s ts t) ∙ max_assoc (depth s (length s.modules) k) (greatest_depth s ts) (depth_of s t)

capped_step : (m c p own a b ab : ℕ) → c ≡ capped (own + a) → p ≡ capped b → m ≡ capped (c + p) → ab ≡ a + b → m ≡ capped (own + ab)
capped_step m c p own a b ab h k e sum = omega arith

-- the counts with one more binding
pub count_step : (s : Source) (own : ℕ) (ts : List Binding) (t : Binding) (count p more : Count) →
    IsCapped (plus (counts 1 0 own) (sum_parts s ts)) (greatest_depth s ts) count → IsCapped (part s t) (depth_of s t) p →
    more.scopes ≡ capped (count.scopes + p.scopes) → more.leaves ≡ capped (count.leaves + p.leaves) → more.inner ≡ capped (count.inner + p.inner) → more.depth ≡ max count.depth p.depth →
    IsCapped (plus (counts 1 0 own) (sum_parts s (ts ++ t ∷ []))) (greatest_depth s (ts ++ t ∷ [])) more
count_step s own ts t count p more h k a b c d =
    let push = parts-push s ts t in
    let x : (sum_parts s (ts ++ t ∷ [])).scopes ≡ (sum_parts s ts).scopes + (part s t).scopes = ap (λ (q : Counts). q.scopes) push in
    let y : (sum_parts s (ts ++ t ∷ [])).leaves ≡ (sum_parts s ts).leaves + (part s t).leaves = ap (λ (q : Counts). q.leaves) push in
    let z : (sum_parts s (ts ++ t ∷ [])).inner ≡ (sum_parts s ts).inner + (part s t).inner = ap (λ (q : Counts). q.inner) push in
    record {
      scopes = capped_step more.scopes count.scopes p.scopes 1 (sum_parts s ts).scopes (part s t).scopes (sum_parts s (ts ++ t ∷ [])).scopes h.scopes k.scopes a x;
      leaves = capped_step more.leaves count.leaves p.leaves 0 (sum_parts s ts).leaves (part s t).leaves (sum_parts s (ts ++ t ∷ [])).leaves h.leaves k.leaves b y;
      inner = capped_step more.inner count.inner p.inner own (sum_parts s ts).inner (part s t).inner (sum_parts s (ts ++ t ∷ [])).inner h.inner k.inner c z;
      depth = d ∙ ap (λ (n : ℕ). max n p.depth) h.depth ∙ ap (max (greatest_depth s ts)) k.depth ∙ sym (depth-push s ts t);
    }

-- a cell's counts
pub cell_count : (s : Source) (n x : ℕ) (t : Binding) → t ≡ OfCell n → x ≡ capped (length (pins (cell_at s n))) →
    IsCapped (part s t) (depth_of s t) (record { scopes = 0; leaves = 1; inner = x; depth = 0 })
cell_count s n x t is e = subst (λ (u : Binding). IsCapped (part s u) (depth_of s u) (record { scopes = 0; leaves = 1; inner = x; depth = 0 })) (sym is)
    (record { scopes = refl; leaves = refl; inner = e ∙ ap capped (sym (length-pins_of (cell_at s n))); depth = refl })

-- The items of the module at place i of an order are counted once those before it are.
counted_one : (s : Source) (order : List ℕ) (i : ℕ) (table : List Count) → IsOrder s order → i < length order → AreCounted s order i table → length table ≡ length s.modules →
    (t : Binding) → IsThere s t → Stands order i t → IsCounted s table t
counted_one s order i table h inside counted same (OfCell n) is_there stands = is_there
counted_one s order i table h inside counted same OfNothing is_there stands = tt
counted_one s order i table h inside counted same (OfModule k) is_there (j, before, is) =
    let at_j : j < length order = omega arith in
    let number = h.number j at_j in
    let within : slice_index order j < length table = omega arith in
    subst (λ (n : ℕ). IsCounted s table (OfModule n)) is (within, counted.each j before)

counted_all : (s : Source) (order : List ℕ) (i : ℕ) (table : List Count) → IsOrder s order → i < length order → AreCounted s order i table → length table ≡ length s.modules →
    (is : List Item) → AllByRecursion (Stands order i) (map (binding_in s) is) → AllByRecursion (IsCounted s table) (map (binding_in s) is)
counted_all s order i table h inside counted same [] all = tt
counted_all s order i table h inside counted same (x ∷ is) all =
    (counted_one s order i table h inside counted same (binding_in s x) (there s x) all.0, counted_all s order i table h inside counted same is all.1)

pub counted_bindings : (s : Source) (order : List ℕ) (i : ℕ) (table : List Count) → IsOrder s order → i < length order → AreCounted s order i table → length table ≡ length s.modules →
    All (IsCounted s table) (bindings_in s (module_at s (slice_index order i)))
counted_bindings s order i table h inside counted same =
    All-from_recursion (IsCounted s table) (bindings_in s (module_at s (slice_index order i))) (counted_all s order i table h inside counted same (module_at s (slice_index order i)).items (h.behind i inside))

-- no module is deeper than there are instances in one another
deepest-le : (f : ℕ → ℕ) (most : ℕ) → ((k : ℕ) → f k ≤ most) → (ts : List Binding) → deepest f ts ≤ most
deepest-le f most h [] = omega arith
deepest-le f most h (OfCell n ∷ ts) = deepest-le f most h ts
deepest-le f most h (OfNothing ∷ ts) = deepest-le f most h ts
deepest-le f most h (OfModule k ∷ ts) = let a = h k in let b = deepest-le f most h ts in omega arith

depth-le : (s : Source) (deep k : ℕ) → depth s deep k ≤ suc deep
depth-le s zero k = omega arith
depth-le s (suc deep) k = let a = deepest-le (depth s deep) (suc deep) (depth-le s deep) (bindings_in s (module_at s k)) in omega arith

pub greatest_depth-le : (s : Source) (ts : List Binding) → greatest_depth s ts ≤ suc (length s.modules)
greatest_depth-le s ts = deepest-le (depth s (length s.modules)) (suc (length s.modules)) (depth-le s (length s.modules)) ts

-- the count of the module at place i of an order
pub module_counted : (s : Source) (order : List ℕ) (i : ℕ) (c : Count) → IsOrder s order → i < length order →
    IsCapped (plus (counts 1 0 (length (nets_of (module_at s (slice_index order i))))) (sum_parts s (bindings_in s (module_at s (slice_index order i))))) (greatest_depth s (bindings_in s (module_at s (slice_index order i))) + 1) c →
    IsCount s (slice_index order i) c
module_counted s order i c h inside k =
    let e = all_in-parts s order h i inside in
    let d = depth-parts s order h i inside in
    record {
      scopes = k.scopes ∙ sym (ap (λ (x : Counts). capped x.scopes) e);
      leaves = k.leaves ∙ sym (ap (λ (x : Counts). capped x.leaves) e);
      inner = k.inner ∙ sym (ap (λ (x : Counts). capped x.inner) e);
      depth = omega (arith, k.depth, d);
    }

below_by : (i j : ℕ) → j < i + 1 → (j ≡ i → ⊥) → j < i
below_by i j h other = omega arith

below_other : (order : List ℕ) (i j : ℕ) → j < i + 1 → slice_index order j ≢ slice_index order i → j < i
below_other order i j before other = below_by i j before (λ same. other (ap (slice_index order) same))

-- one more module is counted
set_step : (s : Source) (order : List ℕ) (i : ℕ) (table : List Count) (c : Count) (j : ℕ) → slice_index order i < length table → AreCounted s order i table → IsCount s (slice_index order i) c → j < i + 1 →
    (slice_index order j ≡ slice_index order i) ⊎ (slice_index order j ≢ slice_index order i) → IsCount s (slice_index order j) (get_or (set table (slice_index order i) c) (slice_index order j) no_count)
set_step s order i table c j inside counted k before (inl same) =
    let e : get_or (set table (slice_index order i) c) (slice_index order i) no_count ≡ c = get_or-set_same table (slice_index order i) c no_count inside in
    subst (λ (n : ℕ). IsCount s n (get_or (set table (slice_index order i) c) n no_count)) (sym same) (subst (λ (x : Count). IsCount s (slice_index order i) x) (sym e) k)
set_step s order i table c j inside counted k before (inr other) =
    let e : get_or (set table (slice_index order i) c) (slice_index order j) no_count ≡ get_or table (slice_index order j) no_count = get_or-set_other table (slice_index order i) (slice_index order j) c no_count other in
    let lower : j < i = below_other order i j before other in
    subst (λ (x : Count). IsCount s (slice_index order j) x) (sym e) (counted.each j lower)

pub counted_step : (s : Source) (order : List ℕ) (i : ℕ) (table : List Count) (c : Count) → slice_index order i < length table → AreCounted s order i table → IsCount s (slice_index order i) c →
    AreCounted s order (i + 1) (set table (slice_index order i) c)
counted_step s order i table c inside counted k = record { each = λ j before. set_step s order i table c j inside counted k before (cases_eq (slice_index order j) (slice_index order i)) }
