-- Each step of a walk comes after the steps before it: what its counts say, and how many scopes, leaves and inner bits there are in the end.
use Rattle.std.proofs.Common.{◌≡◌, ℕ, zero, suc, ◌+◌, ◌<◌, ◌≤◌, List, [], ◌∷◌, ◌++◌, length, refl, sym, ap, ◌∙◌, subst, arith, add_assoc, zero-add, add-zero}
use Rattle.std.specs.List.{AllByRecursion}
use Rattle.mintc_netlist.specs.declared.module.Item.{Item}
use Rattle.mintc_netlist.specs.declared.module.Module.{Module}
use Rattle.mintc_netlist.specs.Nets.{nets_of}
use Rattle.mintc_flatten_hierarchy.specs.declared.bindings.Binding.{Binding}
use Rattle.mintc_flatten_hierarchy.specs.declared.bindings.Binding.TheVariants.{OfCell, OfModule, OfNothing}
use Rattle.mintc_flatten_hierarchy.specs.Sources.{Source, module_at, binding_in}
use Rattle.mintc_flatten_hierarchy.specs.Walks.{Counts, counts, plus, size_of, Place, place_at, Step, step_at, total, after, steps_from, steps_inside, inside, walk}

pub plus_assoc : (a b c : Counts) → plus (plus a b) c ≡ plus a (plus b c)
plus_assoc a b c = let x = add_assoc a.scopes b.scopes c.scopes in let y = add_assoc a.leaves b.leaves c.leaves in let z = add_assoc a.inner b.inner c.inner in
    ap (λ n. counts n ((a.leaves + b.leaves) + c.leaves) ((a.inner + b.inner) + c.inner)) x
    ∙ ap (λ n. counts (a.scopes + (b.scopes + c.scopes)) n ((a.inner + b.inner) + c.inner)) y
    ∙ ap (λ n. counts (a.scopes + (b.scopes + c.scopes)) (a.leaves + (b.leaves + c.leaves)) n) z

pub none_plus : (a : Counts) → plus (counts 0 0 0) a ≡ a
none_plus a =
    ap (λ n. counts n (0 + a.leaves) (0 + a.inner)) (zero-add a.scopes)
    ∙ ap (λ n. counts a.scopes n (0 + a.inner)) (zero-add a.leaves)
    ∙ ap (λ n. counts a.scopes a.leaves n) (zero-add a.inner)

pub plus_none : (a : Counts) → plus a (counts 0 0 0) ≡ a
plus_none a =
    ap (λ n. counts n (a.leaves + 0) (a.inner + 0)) (add-zero a.scopes)
    ∙ ap (λ n. counts a.scopes n (a.inner + 0)) (add-zero a.leaves)
    ∙ ap (λ n. counts a.scopes a.leaves n) (add-zero a.inner)

-- Steps in order: before each one is what the ones before it brought.
abbrev pub AreInOrder : Source → Counts → List Step → Type 0
AreInOrder s before [] = Unit {0}
AreInOrder s before (step ∷ steps) = (step.before ≡ before) × AreInOrder s (plus before (size_of s (binding_in s step.item))) steps

order_from : (s : Source) (a b : Counts) (steps : List Step) → a ≡ b → AreInOrder s a steps → AreInOrder s b steps
order_from s a b steps same h = subst (λ (c : Counts). AreInOrder s c steps) same h

in_order-append : (s : Source) (before : Counts) (xs ys : List Step) → AreInOrder s before xs → AreInOrder s (after s before xs) ys → AreInOrder s before (xs ++ ys)
in_order-append s before [] ys h k = order_from s (plus before (counts 0 0 0)) before ys (plus_none before) k
in_order-append s before (x ∷ xs) ys h k = (
  h.0,
  in_order-append s (plus before (size_of s (binding_in s x.item))) xs ys h.1
      (order_from s (plus before (plus (size_of s (binding_in s x.item)) (total s xs))) (plus (plus before (size_of s (binding_in s x.item))) (total s xs)) ys
      (sym (plus_assoc before (size_of s (binding_in s x.item)) (total s xs))) k),
)

steps_in_order : (s : Source) (within : Counts → Item → List Step) → ((before : Counts) (i : Item) → AreInOrder s (plus before (size_of s (binding_in s i))) (within before i)) →
    (place : Place) (before : Counts) (is : List Item) → AreInOrder s before (steps_from s within place before is)
steps_in_order s within each place before [] = tt
steps_in_order s within each place before (i ∷ is) =
    in_order-append s before (step_at place before i ∷ within before i) (steps_from s within place (after s before (step_at place before i ∷ within before i)) is)
    (refl, each before i) (steps_in_order s within each place (after s before (step_at place before i ∷ within before i)) is)

inside_by : (s : Source) (within : Counts → Item → List Step) → ((before : Counts) (i : Item) → AreInOrder s (plus before (size_of s (binding_in s i))) (within before i)) →
    (before : Counts) (t : Binding) → AreInOrder s (plus before (size_of s t)) (steps_inside s within before t)
inside_by s within each before (OfModule k) = steps_in_order s within each (place_at (module_at s k) before.scopes before.inner) (plus before (size_of s (OfModule k))) (module_at s k).items
inside_by s within each before (OfCell n) = tt
inside_by s within each before OfNothing = tt

inside_in_order : (s : Source) (deep : ℕ) (before : Counts) (i : Item) → AreInOrder s (plus before (size_of s (binding_in s i))) (inside s deep before i)
inside_in_order s zero before i = tt
inside_in_order s (suc deep) before i = inside_by s (inside s deep) (inside_in_order s deep) before (binding_in s i)

pub walk_in_order : (s : Source) (top : ℕ) → AreInOrder s (plus (counts 0 0 0) (size_of s (OfModule top))) (walk s top)
walk_in_order s top = inside_by s (inside s (length s.modules)) (inside_in_order s (length s.modules)) (counts 0 0 0) (OfModule top)

-- What a step brings is among what there is in the end.
pub record IsWithin (s : Source) (most : Counts) (step : Step) : Type 0 where
  pub scopes : step.before.scopes + (size_of s (binding_in s step.item)).scopes ≤ most.scopes
  pub leaves : step.before.leaves + (size_of s (binding_in s step.item)).leaves ≤ most.leaves
  pub inner : step.before.inner + (size_of s (binding_in s step.item)).inner ≤ most.inner

within_by : (s : Source) (most before : Counts) (x : Step) (rest : Counts) → x.before ≡ before →
    before.scopes + ((size_of s (binding_in s x.item)).scopes + rest.scopes) ≤ most.scopes → before.leaves + ((size_of s (binding_in s x.item)).leaves + rest.leaves) ≤ most.leaves →
    before.inner + ((size_of s (binding_in s x.item)).inner + rest.inner) ≤ most.inner → IsWithin s most x
within_by s most before x rest same a b c =
    let e = ap (λ (n : Counts). n.scopes) same in
    let f = ap (λ (n : Counts). n.leaves) same in
    let g = ap (λ (n : Counts). n.inner) same in
    record { scopes = omega (arith, e, a); leaves = omega (arith, f, b); inner = omega (arith, g, c) }

pub all_within : (s : Source) (most before : Counts) (steps : List Step) → AreInOrder s before steps →
    before.scopes + (total s steps).scopes ≤ most.scopes → before.leaves + (total s steps).leaves ≤ most.leaves → before.inner + (total s steps).inner ≤ most.inner →
    AllByRecursion (IsWithin s most) steps
all_within s most before [] h a b c = tt
all_within s most before (x ∷ xs) h a b c = (
  within_by s most before x (total s xs) h.0 a b c,
  all_within s most (plus before (size_of s (binding_in s x.item))) xs h.1 (omega (arith, a)) (omega (arith, b)) (omega (arith, c)),
)

-- Steps stand in a scope that comes before them, whose nets come before what they bring; of the items of that scope's module something is known.
pub record IsPlacedStep (Known : Module → Item → Type 0) (step : Step) : Type 0 where
  pub scope : step.place.scope < step.before.scopes
  pub nets : step.place.first + length (nets_of step.place.module_nets) ≤ step.before.inner
  pub known : Known step.place.module_nets step.item

all_append : {X : Type 0} (P : X → Type 0) (xs ys : List X) → AllByRecursion P xs → AllByRecursion P ys → AllByRecursion P (xs ++ ys)
all_append P [] ys h k = k
all_append P (x ∷ xs) ys h k = (h.0, all_append P xs ys h.1 k)

steps_placed : (s : Source) (Known : Module → Item → Type 0) (within : Counts → Item → List Step) → ((before : Counts) (i : Item) → AllByRecursion (IsPlacedStep Known) (within before i)) →
    (place : Place) (before : Counts) (is : List Item) → place.scope < before.scopes → place.first + length (nets_of place.module_nets) ≤ before.inner → AllByRecursion (Known place.module_nets) is →
    AllByRecursion (IsPlacedStep Known) (steps_from s within place before is)
steps_placed s Known within each place before [] a b all = tt
steps_placed s Known within each place before (i ∷ is) a b all =
    let steps = step_at place before i ∷ within before i in
    all_append (IsPlacedStep Known) (step_at place before i ∷ within before i) (steps_from s within place (after s before (step_at place before i ∷ within before i)) is)
    (record { scope = a; nets = b; known = all.0 }, each before i)
    (steps_placed s Known within each place (after s before (step_at place before i ∷ within before i)) is (further a (total s steps).scopes) (within_more b (total s steps).inner) all.1)
  where
    further : {n m : ℕ} → n < m → (k : ℕ) → n < m + k
    further h k = omega arith

    within_more : {n m : ℕ} → n ≤ m → (k : ℕ) → n ≤ m + k
    within_more h k = omega arith

-- the modules that bindings name have known items
abbrev pub KnowsBinding : Source → (Module → Item → Type 0) → Binding → Type 0
KnowsBinding s Known (OfModule k) = AllByRecursion (Known (module_at s k)) (module_at s k).items
KnowsBinding s Known t = Unit {0}

placed_by : (s : Source) (Known : Module → Item → Type 0) (within : Counts → Item → List Step) → ((before : Counts) (i : Item) → AllByRecursion (IsPlacedStep Known) (within before i)) →
    (before : Counts) (t : Binding) → KnowsBinding s Known t → AllByRecursion (IsPlacedStep Known) (steps_inside s within before t)
placed_by s Known within each before (OfModule k) known =
    steps_placed s Known within each (place_at (module_at s k) before.scopes before.inner) (plus before (size_of s (OfModule k))) (module_at s k).items (omega arith) (omega arith) known
placed_by s Known within each before (OfCell n) known = tt
placed_by s Known within each before OfNothing known = tt

inside_placed : (s : Source) (Known : Module → Item → Type 0) → ((i : Item) → KnowsBinding s Known (binding_in s i)) → (deep : ℕ) (before : Counts) (i : Item) → AllByRecursion (IsPlacedStep Known) (inside s deep before i)
inside_placed s Known knows zero before i = tt
inside_placed s Known knows (suc deep) before i = placed_by s Known (inside s deep) (inside_placed s Known knows deep) before (binding_in s i) (knows i)

pub walk_placed : (s : Source) (Known : Module → Item → Type 0) (top : ℕ) → ((i : Item) → KnowsBinding s Known (binding_in s i)) → KnowsBinding s Known (OfModule top) → AllByRecursion (IsPlacedStep Known) (walk s top)
walk_placed s Known top knows of_top = placed_by s Known (inside s (length s.modules)) (inside_placed s Known knows (length s.modules)) (counts 0 0 0) (OfModule top) of_top
