-- Joins, place by place and pin by pin.
use Rattle.std.proofs.Common.{◌≡◌, ℕ, ◌+◌, ◌<◌, ◌≤◌, List, [], ◌∷◌, ◌++◌, map, drop, length, get_or, cond, Bool, Option, Some, None, min, refl, sym, ap, ◌∙◌, arith, append_assoc, nat_le, true, false}
use Rattle.std.specs.List.{flat_map, cons_option}
use Rattle.std.specs.Option.{option_map, option_to_list}
use Rattle.std.proofs.lemmas.List.{append-nil, drop_more, drop_all}
use Rattle.std.proofs.lemmas.Simd.{map-map}
use Rattle.std.proofs.lemmas.Bool.Decides.{nat_tests}
use Rattle.mintc_netlist.specs.declared.expression.Piece.{Piece}
use Rattle.mintc_netlist.specs.declared.module.Item.{Item}
use Rattle.mintc_netlist.specs.declared.module.Module.{Module}
use Rattle.mintc_netlist.specs.Expressions.{expression_places}
use Rattle.mintc_netlist.specs.Connections.{Pin, Wiring, wiring_of, expression_at, wirings_from}
use Rattle.mintc_flatten_hierarchy.specs.declared.hierarchy.Join.{Join}
use Rattle.mintc_flatten_hierarchy.specs.declared.bindings.Binding.{Binding}
use Rattle.mintc_flatten_hierarchy.specs.Sources.{Source, binding_pins}
use Rattle.mintc_flatten_hierarchy.specs.Walks.{place_at}
use Rattle.mintc_flatten_hierarchy.specs.Hierarchies.{joined, wiring_joins}
use Rattle.mintc_flatten_binding.specs.Wired.{no_pin, pin_at, wiring_at}
use Rattle.mintc_flatten.specs.Joining.{moved}

-- one more bit of each side
joined_more : (x y : Option ℕ) (xs ys : List (Option ℕ)) → joined (x ∷ xs) (y ∷ ys) ≡ joined (x ∷ []) (y ∷ []) ++ joined xs ys
joined_more (Some a) (Some b) xs ys = refl
joined_more (Some a) None xs ys = refl
joined_more None y xs ys = refl

-- where a side ends
joined_none : (xs : List (Option ℕ)) → joined xs [] ≡ []
joined_none [] = refl
joined_none (Some a ∷ xs) = refl
joined_none (None ∷ xs) = refl

none_joined : (ys : List (Option ℕ)) → joined [] ys ≡ []
none_joined [] = refl
none_joined (y ∷ ys) = refl

abbrev pub joined_from : ℕ → ℕ → List (Option ℕ) → List (Option ℕ) → ℕ → List Join
joined_from f t froms tos k = joined (moved f (drop k froms)) (moved t (drop k tos))

pub joined_turn : (f t : ℕ) (froms tos : List (Option ℕ)) (k : ℕ) (old new : List Join) → k < min (length froms) (length tos) →
    new ≡ old ++ joined (moved f (get_or froms k None ∷ [])) (moved t (get_or tos k None ∷ [])) → new ++ joined_from f t froms tos (k + 1) ≡ old ++ joined_from f t froms tos k
joined_turn f t froms tos k old new inside more =
    let x = get_or froms k None in
    let y = get_or tos k None in
    let left : drop k froms ≡ x ∷ drop (k + 1) froms = drop_more froms k None (omega arith) in
    let right : drop k tos ≡ y ∷ drop (k + 1) tos = drop_more tos k None (omega arith) in
    ap (λ (js : List Join). js ++ joined_from f t froms tos (k + 1)) more
    ∙ append_assoc old (joined (moved f (x ∷ [])) (moved t (y ∷ []))) (joined_from f t froms tos (k + 1))
    ∙ ap (λ (js : List Join). old ++ js) (sym (joined_more (option_map (λ at. f + at) x) (option_map (λ at. t + at) y) (moved f (drop (k + 1) froms)) (moved t (drop (k + 1) tos))))
    ∙ ap (λ (xs : List (Option ℕ)). old ++ joined (moved f xs) (moved t (y ∷ drop (k + 1) tos))) (sym left)
    ∙ ap (λ (ys : List (Option ℕ)). old ++ joined (moved f (drop k froms)) (moved t ys)) (sym right)

end_by : (f t : ℕ) (froms tos : List (Option ℕ)) (k : ℕ) (b : Bool) → nat_le (length froms) k ≡ b → min (length froms) (length tos) ≤ k → joined_from f t froms tos k ≡ []
end_by f t froms tos k true e past =
    let over : length froms ≤ k = grind (arith, nat_tests) in
    ap (λ (xs : List (Option ℕ)). joined (moved f xs) (moved t (drop k tos))) (drop_all k froms over) ∙ none_joined (moved t (drop k tos))
end_by f t froms tos k false e past =
    let inside : k < length froms = grind (arith, nat_tests) in
    let over : length tos ≤ k = omega (arith, inside, past) in
    ap (λ (ys : List (Option ℕ)). joined (moved f (drop k froms)) (moved t ys)) (drop_all k tos over) ∙ joined_none (moved f (drop k froms))

pub joined_end : (f t : ℕ) (froms tos : List (Option ℕ)) (k : ℕ) → min (length froms) (length tos) ≤ k → joined_from f t froms tos k ≡ []
joined_end f t froms tos k past = end_by f t froms tos k (nat_le (length froms) k) refl past

-- what is connected to a pin, if anything is
pub wired_some : (f : Wiring → List Join) (pin : Pin) (e : Option (List Piece)) (pieces : List Piece) → e ≡ Some pieces → flat_map f (option_to_list (option_map (wiring_of pin) e)) ≡ f (wiring_of pin pieces)
wired_some f pin e pieces is =
    ap (λ (e : Option (List Piece)). flat_map f (option_to_list (option_map (wiring_of pin) e))) is ∙ append-nil (f (wiring_of pin pieces))

pub wired_none : (f : Wiring → List Join) (pin : Pin) (e : Option (List Piece)) → e ≡ None → flat_map f (option_to_list (option_map (wiring_of pin) e)) ≡ []
wired_none f pin e is = ap (λ (e : Option (List Piece)). flat_map f (option_to_list (option_map (wiring_of pin) e))) is

-- the joins of a pin and an expression, from their places
pub wiring-is : (m : Module) (first own : ℕ) (pin : Pin) (pieces : List Piece) (output : Bool) (pins nets : List (Option ℕ)) → output ≡ pin.output → pins ≡ map Some pin.places → nets ≡ expression_places m pieces →
    cond output (joined (moved own pins) (moved first nets)) (joined (moved first nets) (moved own pins)) ≡ wiring_joins (place_at m 0 first) own (wiring_of pin pieces)
wiring-is m first own pin pieces output pins nets o p n =
    ap (λ (b : Bool). cond b (joined (moved own pins) (moved first nets)) (joined (moved first nets) (moved own pins))) o
    ∙ ap (λ (xs : List (Option ℕ)). cond pin.output (joined (moved own xs) (moved first nets)) (joined (moved first nets) (moved own xs))) p
    ∙ ap (λ (xs : List (Option ℕ)). cond pin.output (joined (moved own (map Some pin.places)) (moved first xs)) (joined (moved first xs) (moved own (map Some pin.places)))) n
    ∙ ap (λ (xs : List (Option ℕ)). cond pin.output (joined xs (moved first (expression_places m pieces))) (joined (moved first (expression_places m pieces)) xs)) (map-map (option_map (λ at. own + at)) Some pin.places)

-- one more pin
wirings_cons : (f : Wiring → List Join) (o : Option Wiring) (ws : List Wiring) → flat_map f (cons_option o ws) ≡ flat_map f (option_to_list o) ++ flat_map f ws
wirings_cons f None ws = refl
wirings_cons f (Some w) ws = ap (λ (js : List Join). js ++ flat_map f ws) (sym (append-nil (f w)))

pub wirings_turn : (f : Wiring → List Join) (i : Item) (s : Source) (t : Binding) (k : ℕ) (old new : List Join) → k < length (binding_pins s t) → new ≡ old ++ flat_map f (wiring_at i s t k) →
    new ++ flat_map f (wirings_from (k + 1) i (drop (k + 1) (binding_pins s t))) ≡ old ++ flat_map f (wirings_from k i (drop k (binding_pins s t)))
wirings_turn f i s t k old new inside more =
    let pins = binding_pins s t in
    let here : drop k pins ≡ pin_at s t k ∷ drop (k + 1) pins = drop_more pins k no_pin inside in
    ap (λ (js : List Join). js ++ flat_map f (wirings_from (k + 1) i (drop (k + 1) pins))) more
    ∙ append_assoc old (flat_map f (wiring_at i s t k)) (flat_map f (wirings_from (k + 1) i (drop (k + 1) pins)))
    ∙ ap (λ (js : List Join). old ++ js) (sym (wirings_cons f (option_map (wiring_of (pin_at s t k)) (expression_at i k (pin_at s t k).name)) (wirings_from (k + 1) i (drop (k + 1) pins))))
    ∙ ap (λ (ps : List Pin). old ++ flat_map f (wirings_from k i ps)) (sym here)

pub wirings_end : (f : Wiring → List Join) (i : Item) (pins : List Pin) (k : ℕ) (old : List Join) → length pins ≤ k → old ++ flat_map f (wirings_from k i (drop k pins)) ≡ old
wirings_end f i pins k old past = ap (λ (ps : List Pin). old ++ flat_map f (wirings_from k i ps)) (drop_all k pins past) ∙ append-nil old
