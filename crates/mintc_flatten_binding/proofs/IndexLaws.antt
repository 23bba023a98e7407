-- The modules by name, one more at a time.
use Rattle.std.proofs.Common.{◌≡◌, ℕ, suc, ◌+◌, ◌≤◌, ◌<◌, List, [], ◌∷◌, ◌++◌, length, Bool, true, false, Option, Some, None, not, ◌||◌, subst, bytes_eq, cond, nat_lt, nat_eq, position, slice_index, IfSome, IsSome, arith, refl, sym, ap, ◌∙◌}
use Rattle.std.specs.List.{position_or_len, list_any}
use Rattle.std.specs.Option.{option_or, option_map}
use Rattle.std.proofs.lemmas.Bool.Decides.{nat_tests}
use Rattle.std.proofs.lemmas.List.{length_push, get_or_append_left, get_or_push}
use Rattle.std.proofs.lemmas.List.Folds.{position_or_len_push}
use Rattle.std.proofs.lemmas.List.Sums.{prefix_len-le-length}
use Rattle.mintc_netlist.specs.declared.module.Module.{Module}
use Rattle.mintc_text_names.specs.Names.{is_among, with_name}
use Rattle.std.proofs.lemmas.Slice.Eq.{bytes_eq-Decides}
use Rattle.mintc_flatten_hierarchy.specs.Sources.{is_called}
use Rattle.mintc_flatten_binding.specs.Named.{IsIndex}

-- a place in a list of L at n, or none, after one more that passes or not
push_by : (n L : ℕ) (b : Bool) → n ≤ L →
    cond (nat_lt (cond (nat_eq n L) (L + cond b 0 1) n) (L + 1)) (Some (cond (nat_eq n L) (L + cond b 0 1) n)) None ≡ option_or (cond (nat_lt n L) (Some n) None) (cond b (Some L) None)
push_by n L true h = grind (arith, nat_tests)
push_by n L false h = grind (arith, nat_tests)

pub position_push : {X : Type 0} (p : X → Bool) (xs : List X) (y : X) → position p (xs ++ y ∷ []) ≡ option_or (position p xs) (cond (p y) (Some (length xs)) None)
position_push p xs y =
    rw (position_or_len_push p xs y, length_push xs y) (push_by (position_or_len p xs) (length xs) (p y) (prefix_len-le-length (λ x. not (p x)) xs))

within_by : (n L : ℕ) (b : Bool) → nat_lt n L ≡ b → IfSome (cond b (Some n) None) (λ i. i < L)
within_by n L true h = grind (arith, nat_tests)
within_by n L false h = tt

pub position_within : {X : Type 0} (p : X → Bool) (xs : List X) → IfSome (position p xs) (λ i. i < length xs)
position_within p xs = within_by (position_or_len p xs) (length xs) (nat_lt (position_or_len p xs) (length xs)) refl

-- the numbers of the old places and of a new one
pub index_new : (numbers : List ℕ) (last n : ℕ) (o : Option ℕ) (b : Bool) → length numbers ≡ n → IfSome o (λ i. i < n) →
    option_map (slice_index (numbers ++ last ∷ [])) (option_or o (cond b (Some n) None)) ≡ option_or (option_map (slice_index numbers) o) (cond b (Some last) None)
index_new numbers last n (Some i) b same within =
    let inside : i < length numbers = omega arith in
    ap Some (get_or_append_left numbers (last ∷ []) 0 i inside)
index_new numbers last n None true same within = ap Some (get_or_push numbers last 0 n same)
index_new numbers last n None false same within = refl

pub index_old : (numbers : List ℕ) (last : ℕ) (o : Option ℕ) (b : Bool) → (b ≡ true → IsSome o) → option_map (slice_index numbers) o ≡ option_or (option_map (slice_index numbers) o) (cond b (Some last) None)
index_old numbers last (Some i) b h = refl
index_old numbers last None true h = let none : false ≡ true = h refl in cc
index_old numbers last None false h = refl

-- a name among others has a place
any_cons : (b : Bool) (n L : ℕ) (a : Bool) → (b || a) ≡ true → (a ≡ true → n < L) → cond (not b) (1 + n) 0 < suc L
any_cons true n L a h k = omega arith
any_cons false n L a h k = let below : n < L = k h in omega arith

pub any_below : {X : Type 0} (p : X → Bool) (xs : List X) → list_any p xs ≡ true → position_or_len p xs < length xs
any_below p [] h = cc
any_below p (x ∷ xs) h = any_cons (p x) (position_or_len p xs) (length xs) (list_any p xs) h (any_below p xs)

some_by : (n L : ℕ) → n < L → IsSome (cond (nat_lt n L) (Some n) None)
some_by n L h = let e : nat_lt n L ≡ true = grind (arith, nat_tests) in rw e

pub place_of_any : {X : Type 0} (p : X → Bool) (xs : List X) → list_any p xs ≡ true → IsSome (position p xs)
place_of_any p xs h = some_by (position_or_len p xs) (length xs) (any_below p xs h)

index_absent : (names : List (List ℕ)) (numbers : List ℕ) (ms : List Module) (m : Module) → IsIndex names numbers ms → IsIndex (names ++ m.name ∷ []) (numbers ++ length ms ∷ []) (ms ++ m ∷ [])
index_absent names numbers ms m h = record {
  each = length_push numbers (length ms) ∙ ap (λ (n : ℕ). n + 1) h.each ∙ sym (length_push names m.name);
  found = λ name.
      ap (option_map (slice_index (numbers ++ length ms ∷ []))) (position_push (bytes_eq name) names m.name)
      ∙ index_new numbers (length ms) (length names) (position (bytes_eq name) names) (bytes_eq name m.name) h.each (position_within (bytes_eq name) names)
      ∙ ap (λ (o : Option ℕ). option_or o (cond (bytes_eq name m.name) (Some (length ms)) None)) (h.found name)
      ∙ sym (position_push (is_called name) ms m);
}

index_present : (names : List (List ℕ)) (numbers : List ℕ) (ms : List Module) (m : Module) → IsIndex names numbers ms → is_among m.name names ≡ true → IsIndex names numbers (ms ++ m ∷ [])
index_present names numbers ms m h there = record {
  each = h.each;
  found = λ name.
      index_old numbers (length ms) (position (bytes_eq name) names) (bytes_eq name m.name)
      (λ same. let one : name ≡ m.name = (bytes_eq-Decides name m.name).0 same in subst (λ (n : List ℕ). IsSome (position (bytes_eq n) names)) (sym one) (place_of_any (bytes_eq m.name) names there))
      ∙ ap (λ (o : Option ℕ). option_or o (cond (bytes_eq name m.name) (Some (length ms)) None)) (h.found name)
      ∙ sym (position_push (is_called name) ms m);
}

index_by : (names : List (List ℕ)) (numbers : List ℕ) (ms : List Module) (m : Module) (b : Bool) → IsIndex names numbers ms → is_among m.name names ≡ b →
    IsIndex (cond b names (names ++ m.name ∷ [])) (cond b numbers (numbers ++ length ms ∷ [])) (ms ++ m ∷ [])
index_by names numbers ms m true h e = index_present names numbers ms m h e
index_by names numbers ms m false h e = index_absent names numbers ms m h

pub index_step : (names : List (List ℕ)) (numbers : List ℕ) (ms : List Module) (m : Module) (names' : List (List ℕ)) (numbers' : List ℕ) (n : ℕ) → IsIndex names numbers ms → n ≡ length ms →
    names' ≡ with_name names m.name → numbers' ≡ cond (is_among m.name names) numbers (numbers ++ n ∷ []) → IsIndex names' numbers' (ms ++ m ∷ [])
index_step names numbers ms m names' numbers' n h count e f =
    let g : numbers' ≡ cond (is_among m.name names) numbers (numbers ++ length ms ∷ []) = f ∙ ap (λ (k : ℕ). cond (is_among m.name names) numbers (numbers ++ k ∷ [])) count in
    rw (e, g) (index_by names numbers ms m (is_among m.name names) h refl)
