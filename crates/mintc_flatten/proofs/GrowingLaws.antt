-- Lists that grow step by step have the sizes that the walk says, and are the hierarchy's in the end.
use Rattle.std.proofs.Common.{◌≡◌, ℕ, ◌+◌, List, [], ◌∷◌, ◌++◌, map, length, Option, Some, None, refl, sym, ap, ◌∙◌, append_assoc, length-append}
use Rattle.std.specs.List.{filter_map, flat_map, cons_option}
use Rattle.std.specs.Option.{option_to_list}
use Rattle.std.proofs.lemmas.List.{length-map, append-nil}
use Rattle.mintc_cells.specs.Rules.{pins}
use Rattle.mintc_netlist.specs.declared.module.Item.{Item}
use Rattle.mintc_netlist.specs.Nets.{nets_of}
use Rattle.mintc_flatten_hierarchy.specs.declared.bindings.Binding.{Binding}
use Rattle.mintc_flatten_hierarchy.specs.declared.bindings.Binding.TheVariants.{OfCell, OfModule, OfNothing}
use Rattle.mintc_flatten_hierarchy.specs.declared.hierarchy.Scope.{Scope}
use Rattle.mintc_flatten_hierarchy.specs.declared.hierarchy.Leaf.{Leaf}
use Rattle.mintc_flatten_hierarchy.specs.declared.hierarchy.Inner.{Inner}
use Rattle.mintc_flatten_hierarchy.specs.declared.hierarchy.Join.{Join}
use Rattle.mintc_flatten_hierarchy.specs.declared.hierarchy.Inner.TheVariants as inner
use Rattle.mintc_flatten_hierarchy.specs.declared.hierarchy.TopPort.{TopPort}
use Rattle.mintc_flatten_hierarchy.specs.declared.hierarchy.Hierarchy.{Hierarchy}
use Rattle.mintc_netlist.specs.Connections.{ports_of}
use Rattle.mintc_flatten_hierarchy.specs.Sources.{Source, module_at, cell_at, binding_in}
use Rattle.mintc_flatten_hierarchy.specs.Walks.{Counts, counts, plus, size_of, Place, place_at, Step, step_at, total, after, steps_from, inside, walk}
use Rattle.mintc_flatten_hierarchy.specs.Hierarchies.{scope_in, leaf_in, inner_in, joins_in, net_of, nets_in, hierarchy_of, top_scope, top_port}
use Rattle.mintc_flatten.specs.Growing.{Lists, lists, sizes, grown_by, grown, grown_all}
use Rattle.mintc_flatten_hierarchy.proofs.SharedOrderedLaws.{plus_assoc, plus_none, none_plus}
use Rattle.mintc_flatten_hierarchy.proofs.SharedLengthLaws.{length-pins_of}

same_counts : (a b c x y z : ℕ) → a ≡ x → b ≡ y → c ≡ z → counts a b c ≡ counts x y z
same_counts a b c x y z p q r = ap (λ n. counts n b c) p ∙ ap (λ n. counts x n c) q ∙ ap (λ n. counts x y n) r

scope_size : (s : Source) (step : Step) (t : Binding) → length (option_to_list (scope_in step t)) ≡ (size_of s t).scopes
scope_size s step (OfCell n) = refl
scope_size s step (OfModule k) = refl
scope_size s step OfNothing = refl

leaf_size : (s : Source) (step : Step) (t : Binding) → length (option_to_list (leaf_in step t)) ≡ (size_of s t).leaves
leaf_size s step (OfCell n) = refl
leaf_size s step (OfModule k) = refl
leaf_size s step OfNothing = refl

inner_size : (s : Source) (step : Step) (t : Binding) → length (inner_in s step t) ≡ (size_of s t).inner
inner_size s step (OfCell n) = length-map (pins (cell_at s n)) (λ (name : List ℕ). inner.Pin step.before.leaves name) ∙ sym (length-pins_of (cell_at s n))
inner_size s step (OfModule k) = length-map (nets_of (module_at s k)) (net_of step.before.scopes)
inner_size s step OfNothing = refl

-- the sizes after a step and after some
sizes-grown_by : (s : Source) (l : Lists) (step : Step) (t : Binding) → sizes (grown_by s l step t) ≡ plus (sizes l) (size_of s t)
sizes-grown_by s l step t =
    same_counts (length (l.scopes ++ option_to_list (scope_in step t))) (length (l.leaves ++ option_to_list (leaf_in step t))) (length (l.inner ++ inner_in s step t))
    (length l.scopes + (size_of s t).scopes) (length l.leaves + (size_of s t).leaves) (length l.inner + (size_of s t).inner)
    (length-append l.scopes (option_to_list (scope_in step t)) ∙ ap (λ n. length l.scopes + n) (scope_size s step t))
    (length-append l.leaves (option_to_list (leaf_in step t)) ∙ ap (λ n. length l.leaves + n) (leaf_size s step t))
    (length-append l.inner (inner_in s step t) ∙ ap (λ n. length l.inner + n) (inner_size s step t))

pub sizes-grown : (s : Source) (l : Lists) (step : Step) → sizes (grown s l step) ≡ plus (sizes l) (size_of s (binding_in s step.item))
sizes-grown s l step = sizes-grown_by s l step (binding_in s step.item)

pub sizes-grown_all : (s : Source) (l : Lists) (steps : List Step) → sizes (grown_all s l steps) ≡ after s (sizes l) steps
sizes-grown_all s l [] = sym (plus_none (sizes l))
sizes-grown_all s l (step ∷ steps) =
    sizes-grown_all s (grown s l step) steps ∙ ap (λ (c : Counts). plus c (total s steps)) (sizes-grown s l step) ∙ plus_assoc (sizes l) (size_of s (binding_in s step.item)) (total s steps)

pub grown_all-append : (s : Source) (l : Lists) (xs ys : List Step) → grown_all s l (xs ++ ys) ≡ grown_all s (grown_all s l xs) ys
grown_all-append s l [] ys = refl
grown_all-append s l (x ∷ xs) ys = grown_all-append s (grown s l x) xs ys

-- One item of a scope and what is inside it, and then the items behind it.
pub grown-turn : (s : Source) (within : Counts → Item → List Step) (place : Place) (l : Lists) (i : Item) (is : List Item) →
    grown_all s l (steps_from s within place (sizes l) (i ∷ is))
    ≡ grown_all s (grown_all s l (step_at place (sizes l) i ∷ within (sizes l) i)) (steps_from s within place (sizes (grown_all s l (step_at place (sizes l) i ∷ within (sizes l) i))) is)
grown-turn s within place l i is =
    let steps = step_at place (sizes l) i ∷ within (sizes l) i in
    grown_all-append s l steps (steps_from s within place (after s (sizes l) steps) is)
    ∙ ap (λ (c : Counts). grown_all s (grown_all s l steps) (steps_from s within place c is)) (sym (sizes-grown_all s l steps))

-- What grew is what each list takes of the steps.
one_more : {X : Type 0} (xs : List X) (o : Option X) (ys : List X) → (xs ++ option_to_list o) ++ ys ≡ xs ++ cons_option o ys
one_more xs None ys = ap (λ zs. zs ++ ys) (append-nil xs)
one_more xs (Some x) ys = append_assoc xs (x ∷ []) ys

same_lists_of : (a x : List Scope) (b y : List Leaf) (c z : List Inner) (d w : List Join) → a ≡ x → b ≡ y → c ≡ z → d ≡ w → lists a b c d ≡ lists x y z w
same_lists_of a x b y c z d w p q r t = ap (λ n. lists n b c d) p ∙ ap (λ n. lists x n c d) q ∙ ap (λ n. lists x y n d) r ∙ ap (λ n. lists x y z n) t

abbrev pub scopes_in : Source → List Step → List Scope
scopes_in s steps = filter_map (λ (step : Step). scope_in step (binding_in s step.item)) steps

abbrev pub leaves_in : Source → List Step → List Leaf
leaves_in s steps = filter_map (λ (step : Step). leaf_in step (binding_in s step.item)) steps

abbrev pub all_inner : Source → List Step → List Inner
all_inner s steps = flat_map (λ (step : Step). inner_in s step (binding_in s step.item)) steps

abbrev pub all_joins : Source → List Step → List Join
all_joins s steps = flat_map (λ (step : Step). joins_in s step step.item) steps

pub grown_all-is : (s : Source) (l : Lists) (steps : List Step) → grown_all s l steps ≡ lists (l.scopes ++ scopes_in s steps) (l.leaves ++ leaves_in s steps) (l.inner ++ all_inner s steps) (l.joins ++ all_joins s steps)
grown_all-is s l [] = sym (same_lists_of (l.scopes ++ []) l.scopes (l.leaves ++ []) l.leaves (l.inner ++ []) l.inner (l.joins ++ []) l.joins (append-nil l.scopes) (append-nil l.leaves) (append-nil l.inner) (append-nil l.joins))
grown_all-is s l (step ∷ steps) =
    grown_all-is s (grown s l step) steps
    ∙ same_lists_of ((l.scopes ++ option_to_list (scope_in step (binding_in s step.item))) ++ scopes_in s steps) (l.scopes ++ scopes_in s (step ∷ steps))
    ((l.leaves ++ option_to_list (leaf_in step (binding_in s step.item))) ++ leaves_in s steps) (l.leaves ++ leaves_in s (step ∷ steps))
    ((l.inner ++ inner_in s step (binding_in s step.item)) ++ all_inner s steps) (l.inner ++ all_inner s (step ∷ steps))
    ((l.joins ++ joins_in s step step.item) ++ all_joins s steps) (l.joins ++ all_joins s (step ∷ steps))
    (one_more l.scopes (scope_in step (binding_in s step.item)) (scopes_in s steps))
    (one_more l.leaves (leaf_in step (binding_in s step.item)) (leaves_in s steps))
    (append_assoc l.inner (inner_in s step (binding_in s step.item)) (all_inner s steps))
    (append_assoc l.joins (joins_in s step step.item) (all_joins s steps))

-- the lists before the walk
abbrev pub begun : Source → ℕ → Lists
begun s top = lists (top_scope top ∷ []) [] (nets_in 0 (module_at s top)) []

-- the walk from the top grows them to the hierarchy's
pub walked : (s : Source) (top : ℕ) (l : Lists) →
    l ≡ grown_all s (begun s top) (steps_from s (inside s (length s.modules)) (place_at (module_at s top) 0 0) (sizes (begun s top)) (module_at s top).items) →
    l ≡ lists (hierarchy_of s top).scopes (hierarchy_of s top).leaves (hierarchy_of s top).inner (hierarchy_of s top).joins
walked s top l e =
    let size : sizes (begun s top) ≡ plus (counts 0 0 0) (size_of s (OfModule top)) =
    ap (λ n. counts 1 0 n) (length-map (nets_of (module_at s top)) (net_of 0)) ∙ sym (none_plus (size_of s (OfModule top))) in
    e
    ∙ ap (λ (c : Counts). grown_all s (begun s top) (steps_from s (inside s (length s.modules)) (place_at (module_at s top) 0 0) c (module_at s top).items)) size
    ∙ grown_all-is s (begun s top) (walk s top)

abbrev hierarchy_with : List Scope → List Leaf → List Inner → List Join → List TopPort → Hierarchy
hierarchy_with a b c d e = record { scopes = a; leaves = b; inner = c; joins = d; ports = e }

same_hierarchy : (a x : List Scope) (b y : List Leaf) (c z : List Inner) (d w : List Join) (e v : List TopPort) → a ≡ x → b ≡ y → c ≡ z → d ≡ w → e ≡ v → hierarchy_with a b c d e ≡ hierarchy_with x y z w v
same_hierarchy a x b y c z d w e v p q r t u =
    ap (λ n. hierarchy_with n b c d e) p ∙ ap (λ n. hierarchy_with x n c d e) q ∙ ap (λ n. hierarchy_with x y n d e) r ∙ ap (λ n. hierarchy_with x y z n e) t ∙ ap (λ n. hierarchy_with x y z w n) u

-- a value with the walk's lists and the top's ports is the hierarchy
pub finished : (s : Source) (top : ℕ) (h : Hierarchy) (l : Lists) → h.scopes ≡ l.scopes → h.leaves ≡ l.leaves → h.inner ≡ l.inner → h.joins ≡ l.joins → h.ports ≡ map top_port (ports_of (module_at s top)) →
    l ≡ lists (hierarchy_of s top).scopes (hierarchy_of s top).leaves (hierarchy_of s top).inner (hierarchy_of s top).joins → h ≡ hierarchy_of s top
finished s top h l a b c d e same =
    same_hierarchy h.scopes (hierarchy_of s top).scopes h.leaves (hierarchy_of s top).leaves h.inner (hierarchy_of s top).inner h.joins (hierarchy_of s top).joins h.ports (hierarchy_of s top).ports
    (a ∙ ap (λ (x : Lists). x.scopes) same) (b ∙ ap (λ (x : Lists). x.leaves) same) (c ∙ ap (λ (x : Lists). x.inner) same) (d ∙ ap (λ (x : Lists). x.joins) same) e
