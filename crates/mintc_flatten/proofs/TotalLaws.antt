-- The lengths of a hierarchy's lists are what its modules count to.
use Rattle.std.proofs.Common.{◌≡◌, ℕ, zero, suc, List, [], ◌∷◌, ◌++◌, map, length, refl, sym, ap, ◌∙◌, arith, length-append}
use Rattle.std.proofs.lemmas.List.{length-map}
use Rattle.std.specs.List.{flat_map}
use Rattle.mintc_netlist.specs.declared.module.Item.{Item}
use Rattle.mintc_netlist.specs.Nets.{nets_of}
use Rattle.mintc_flatten_hierarchy.specs.declared.bindings.Binding.{Binding}
use Rattle.mintc_flatten_hierarchy.specs.declared.bindings.Binding.TheVariants.{OfCell, OfModule, OfNothing}
use Rattle.mintc_flatten_hierarchy.specs.Sources.{Source, module_at, binding_in}
use Rattle.mintc_flatten_hierarchy.specs.Walks.{Counts, counts, plus, size_of, Place, place_at, Step, step_at, total, after, steps_from, steps_inside, inside, walk}
use Rattle.mintc_flatten_hierarchy.specs.Hierarchies.{inner_in, net_of, nets_in, hierarchy_of}
use Rattle.mintc_flatten_hierarchy.proofs.SharedOrderedLaws.{plus_assoc, none_plus}
use Rattle.mintc_flatten_hierarchy.proofs.SharedLengthLaws.{scopes-length, leaves-length, inner-length}
use Rattle.mintc_flatten.specs.Totals.{sum_of, content_by, content, all_in}

pub total-append : (s : Source) (xs ys : List Step) → total s (xs ++ ys) ≡ plus (total s xs) (total s ys)
total-append s [] ys = sym (none_plus (total s ys))
total-append s (x ∷ xs) ys = ap (plus (size_of s (binding_in s x.item))) (total-append s xs ys) ∙ sym (plus_assoc (size_of s (binding_in s x.item)) (total s xs) (total s ys))

-- Steps bring what their items' bindings have, wherever they begin.
total-steps : (s : Source) (within : Counts → Item → List Step) (size : Binding → Counts) → ((before : Counts) (i : Item) → total s (within before i) ≡ size (binding_in s i)) →
    (place : Place) (before : Counts) (is : List Item) → total s (steps_from s within place before is) ≡ sum_of s size (map (binding_in s) is)
total-steps s within size same place before [] = refl
total-steps s within size same place before (i ∷ is) =
    total-append s (step_at place before i ∷ within before i) (steps_from s within place (after s before (step_at place before i ∷ within before i)) is)
    ∙ ap (λ (t : Counts). plus (plus (size_of s (binding_in s i)) t) (total s (steps_from s within place (after s before (step_at place before i ∷ within before i)) is))) (same before i)
    ∙ ap (plus (plus (size_of s (binding_in s i)) (size (binding_in s i)))) (total-steps s within size same place (after s before (step_at place before i ∷ within before i)) is)

total-inside_by : (s : Source) (within : Counts → Item → List Step) (size : Binding → Counts) → ((before : Counts) (i : Item) → total s (within before i) ≡ size (binding_in s i)) →
    (before : Counts) (t : Binding) → total s (steps_inside s within before t) ≡ content_by s size t
total-inside_by s within size same before (OfModule k) = total-steps s within size same (place_at (module_at s k) before.scopes before.inner) (plus before (size_of s (OfModule k))) (module_at s k).items
total-inside_by s within size same before (OfCell n) = refl
total-inside_by s within size same before OfNothing = refl

pub total-inside : (s : Source) (deep : ℕ) (before : Counts) (i : Item) → total s (inside s deep before i) ≡ content s deep (binding_in s i)
total-inside s zero before i = refl
total-inside s (suc deep) before i = total-inside_by s (inside s deep) (content s deep) (total-inside s deep) before (binding_in s i)

pub total-walk : (s : Source) (top : ℕ) → total s (walk s top) ≡ content s (suc (length s.modules)) (OfModule top)
total-walk s top = total-inside_by s (inside s (length s.modules)) (content s (length s.modules)) (total-inside s (length s.modules)) (counts 0 0 0) (OfModule top)

-- the three quantities of the hierarchy from a module
pub hierarchy-scopes : (s : Source) (top : ℕ) → length (hierarchy_of s top).scopes ≡ (all_in s top).scopes
hierarchy-scopes s top = let e = scopes-length s (walk s top) in let f = ap (λ (c : Counts). c.scopes) (total-walk s top) in omega arith

pub hierarchy-leaves : (s : Source) (top : ℕ) → length (hierarchy_of s top).leaves ≡ (all_in s top).leaves
hierarchy-leaves s top = let e = leaves-length s (walk s top) in let f = ap (λ (c : Counts). c.leaves) (total-walk s top) in omega arith

pub hierarchy-inner : (s : Source) (top : ℕ) → length (hierarchy_of s top).inner ≡ (all_in s top).inner
hierarchy-inner s top =
    let e = inner-length s (walk s top) in
    let f = ap (λ (c : Counts). c.inner) (total-walk s top) in
    let a = length-append (nets_in 0 (module_at s top)) (flat_map (λ (step : Step). inner_in s step (binding_in s step.item)) (walk s top)) in
    let b = length-map (nets_of (module_at s top)) (net_of 0) in
    omega arith
