-- Connections by their pins, one more at a time.
use Rattle.std.proofs.Common.{◌≡◌, ℕ, ◌+◌, ◌<◌, ◌≤◌, List, [], ◌∷◌, ◌++◌, length, Bool, true, false, Option, Some, None, not, cond, nat_lt, position, slice_index, slice_get, drop, get_or, IsSome, bytes_eq, subst, refl, sym, ap, ◌∙◌, arith}
use Rattle.std.specs.List.{find, position_or_len}
use Rattle.std.specs.Option.{option_or, option_map, option_eq}
use Rattle.std.proofs.lemmas.Bool.Decides.{nat_tests, same_from_decides}
use Rattle.std.proofs.lemmas.List.{length_push, drop_more}
use Rattle.std.proofs.lemmas.List.Folds.{find_at}
use Rattle.std.proofs.lemmas.Option.{slice_get_past, slice_get_read}
use Rattle.std.proofs.lemmas.Slice.Eq.{bytes_eq-Decides}
use Rattle.mintc_netlist.specs.declared.module.Connection.{Connection}
use Rattle.mintc_text_names.specs.Names.{is_among, with_name}
use Rattle.mintc_netlist.specs.Connections.{is_to}
use Rattle.mintc_flatten_binding.specs.Wired.{IsConnected}
use Rattle.mintc_flatten_binding.proofs.IndexLaws.{position_push, position_within, place_of_any, index_new, index_old}

bytes_turned : (a b : List ℕ) → bytes_eq a b ≡ bytes_eq b a
bytes_turned a b =
    let one = bytes_eq-Decides a b in
    let two = bytes_eq-Decides b a in
    same_from_decides (bytes_eq a b) (bytes_eq b a) one (λ h. sym_of (two.0 h), λ h. two.1 (sym_of h))
  where
    sym_of : {a b : List ℕ} → a ≡ b → b ≡ a
    sym_of e = sym e

-- whether a connection with a pin is to a name
to_pin : (c : Connection) (pin name : List ℕ) → c.pin ≡ Some pin → is_to name c ≡ bytes_eq name pin
to_pin c pin name e = ap (λ (o : Option (List ℕ)). option_eq bytes_eq o (Some name)) e ∙ bytes_turned pin name

pub connected_absent : (names : List (List ℕ)) (numbers : List ℕ) (cs : List Connection) (c : Connection) (pin : List ℕ) → c.pin ≡ Some pin → IsConnected names numbers cs →
    IsConnected (names ++ pin ∷ []) (numbers ++ length cs ∷ []) (cs ++ c ∷ [])
connected_absent names numbers cs c pin e h = record {
  each = length_push numbers (length cs) ∙ ap (λ (n : ℕ). n + 1) h.each ∙ sym (length_push names pin);
  found = λ name.
      ap (option_map (slice_index (numbers ++ length cs ∷ []))) (position_push (bytes_eq name) names pin)
      ∙ index_new numbers (length cs) (length names) (position (bytes_eq name) names) (bytes_eq name pin) h.each (position_within (bytes_eq name) names)
      ∙ ap (λ (o : Option ℕ). option_or o (cond (bytes_eq name pin) (Some (length cs)) None)) (h.found name)
      ∙ ap (λ (b : Bool). option_or (position (is_to name) cs) (cond b (Some (length cs)) None)) (sym (to_pin c pin name e))
      ∙ sym (position_push (is_to name) cs c);
}

pub connected_present : (names : List (List ℕ)) (numbers : List ℕ) (cs : List Connection) (c : Connection) (pin : List ℕ) → c.pin ≡ Some pin → IsConnected names numbers cs → is_among pin names ≡ true →
    IsConnected names numbers (cs ++ c ∷ [])
connected_present names numbers cs c pin e h there = record {
  each = h.each;
  found = λ name.
      index_old numbers (length cs) (position (bytes_eq name) names) (bytes_eq name pin)
      (λ same. let one : name ≡ pin = (bytes_eq-Decides name pin).0 same in subst (λ (n : List ℕ). IsSome (position (bytes_eq n) names)) (sym one) (place_of_any (bytes_eq pin) names there))
      ∙ ap (λ (o : Option ℕ). option_or o (cond (bytes_eq name pin) (Some (length cs)) None)) (h.found name)
      ∙ ap (λ (b : Bool). option_or (position (is_to name) cs) (cond b (Some (length cs)) None)) (sym (to_pin c pin name e))
      ∙ sym (position_push (is_to name) cs c);
}

or_none : (o : Option ℕ) → o ≡ option_or o None
or_none (Some x) = refl
or_none None = refl

pub connected_none : (names : List (List ℕ)) (numbers : List ℕ) (cs : List Connection) (c : Connection) → c.pin ≡ None → IsConnected names numbers cs → IsConnected names numbers (cs ++ c ∷ [])
connected_none names numbers cs c e h = record {
  each = h.each;
  found = λ name.
      h.found name
      ∙ or_none (position (is_to name) cs)
      ∙ ap (λ (o : Option (List ℕ)). option_or (position (is_to name) cs) (cond (option_eq bytes_eq o (Some name)) (Some (length cs)) None)) (sym e)
      ∙ sym (position_push (is_to name) cs c);
}

-- a connection with a pin that is taken in: a new pin, and one that was there
pub added : (names names' : List (List ℕ)) (numbers : List ℕ) (cs : List Connection) (c : Connection) (pin : List ℕ) (n : ℕ) (fresh : Bool) → c.pin ≡ Some pin → length cs ≡ n → IsConnected names numbers cs →
    fresh ≡ not (is_among pin names) → fresh ≡ true → names' ≡ with_name names pin → IsConnected names' (numbers ++ n ∷ []) (cs ++ c ∷ [])
added names names' numbers cs c pin n fresh e count h is new more =
    let absent : is_among pin names ≡ false = not_true (is_among pin names) (sym is ∙ new) in
    let longer : names' ≡ names ++ pin ∷ [] = more ∙ ap (λ (b : Bool). cond b names (names ++ pin ∷ [])) absent in
    subst (λ (ns : List (List ℕ)). IsConnected ns (numbers ++ n ∷ []) (cs ++ c ∷ [])) (sym longer)
    (subst (λ (k : ℕ). IsConnected (names ++ pin ∷ []) (numbers ++ k ∷ []) (cs ++ c ∷ [])) count (connected_absent names numbers cs c pin e h))
  where
    not_true : (b : Bool) → not b ≡ true → b ≡ false
    not_true true h = sym h
    not_true false h = refl

pub passed : (names names' : List (List ℕ)) (numbers : List ℕ) (cs : List Connection) (c : Connection) (pin : List ℕ) (fresh : Bool) → c.pin ≡ Some pin → IsConnected names numbers cs →
    fresh ≡ not (is_among pin names) → fresh ≡ false → names' ≡ with_name names pin → IsConnected names' numbers (cs ++ c ∷ [])
passed names names' numbers cs c pin fresh e h is old more =
    let there : is_among pin names ≡ true = not_false (is_among pin names) (sym is ∙ old) in
    let same : names' ≡ names = more ∙ ap (λ (b : Bool). cond b names (names ++ pin ∷ [])) there in
    subst (λ (ns : List (List ℕ)). IsConnected ns numbers (cs ++ c ∷ [])) (sym same) (connected_present names numbers cs c pin e h there)
  where
    not_false : (b : Bool) → not b ≡ false → b ≡ true
    not_false true h = refl
    not_false false h = sym h

-- what is found by its place
place_by : {X : Type 0} (xs : List X) (n k : ℕ) (b : Bool) → nat_lt n (length xs) ≡ b → cond b (Some n) None ≡ Some k → slice_get xs n ≡ slice_get xs k
place_by xs n k true e h = ap (λ o. slice_get xs (option_or_zero o)) h
  where
    option_or_zero : Option ℕ → ℕ
    option_or_zero (Some n) = n
    option_or_zero None = 0
place_by xs n k false e h = cc

past_by : {X : Type 0} (xs : List X) (n : ℕ) (b : Bool) → nat_lt n (length xs) ≡ b → cond b (Some n) None ≡ None → slice_get xs n ≡ None
past_by xs n true e h = cc
past_by xs n false e h = let past : length xs ≤ n = grind (arith, nat_tests) in slice_get_past xs n past

pub found_by : {X : Type 0} (p : X → Bool) (xs : List X) (k : ℕ) → position p xs ≡ Some k → find p xs ≡ slice_get xs k
found_by p xs k h = find_at p xs ∙ place_by xs (position_or_len p xs) k (nat_lt (position_or_len p xs) (length xs)) refl h

pub none_by : {X : Type 0} (p : X → Bool) (xs : List X) → position p xs ≡ None → find p xs ≡ None
none_by p xs h = find_at p xs ∙ past_by xs (position_or_len p xs) (nat_lt (position_or_len p xs) (length xs)) refl h

-- what is found first, where none was before it
pub found_here : {X : Type 0} (p : X → Bool) (xs : List X) (n : ℕ) (x : X) → n < length xs → x ≡ get_or xs n x → p x ≡ true → find p (drop n xs) ≡ find p xs → find p xs ≡ slice_get xs n
found_here p xs n x inside at passes left =
    sym left
    ∙ ap (find p) (drop_more xs n x inside)
    ∙ ap (λ y. find p (y ∷ drop (n + 1) xs)) (sym at)
    ∙ ap (λ (b : Bool). cond b (Some x) (find p (drop (n + 1) xs))) passes
    ∙ sym (slice_get_read xs (length xs) n x refl inside at)
