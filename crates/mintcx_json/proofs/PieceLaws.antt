-- What is written in parts: members of objects and items of arrays.
use Rattle.std.proofs.Common.{◌≡◌, ℕ, List, [], ◌∷◌, ◌++◌, ap, ◌∙◌, sym, refl, append_assoc, append-nil, map}
use Rattle.std.proofs.lemmas.List.{map-append}
use Rattle.json.specs.Json.{Json}
use Rattle.json.specs.Token.{Token}
use Rattle.json.specs.Tree.{json_tokens, items_tokens, members_tokens}
use Rattle.mintcx_json.specs.Objects.{Field, array_of, items_of, members_of, object_of}
use Rattle.mintcx_json.specs.Pieces.{fields_tokens, values_tokens}

fields_append : (fields more : List Field) → fields_tokens (fields ++ more) ≡ fields_tokens fields ++ fields_tokens more
fields_append [] more = refl
fields_append (field ∷ fields) more =
    ap (λ (ts : List Token). Token.key field.0 ∷ (json_tokens field.1 ++ ts)) (fields_append fields more)
    ∙ ap (λ (ts : List Token). Token.key field.0 ∷ ts) (sym (append_assoc (json_tokens field.1) (fields_tokens fields) (fields_tokens more)))

values_append : (values more : List Json) → values_tokens (values ++ more) ≡ values_tokens values ++ values_tokens more
values_append [] more = refl
values_append (value ∷ values) more =
    ap (λ (ts : List Token). json_tokens value ++ ts) (values_append values more)
    ∙ sym (append_assoc (json_tokens value) (values_tokens values) (values_tokens more))

members_are : (fields : List Field) → members_tokens (members_of fields) ≡ fields_tokens fields ++ Token.end_object ∷ []
members_are [] = refl
members_are (field ∷ fields) =
    ap (λ (ts : List Token). Token.key field.0 ∷ (json_tokens field.1 ++ ts)) (members_are fields)
    ∙ ap (λ (ts : List Token). Token.key field.0 ∷ ts) (sym (append_assoc (json_tokens field.1) (fields_tokens fields) (Token.end_object ∷ [])))

items_are : (values : List Json) → items_tokens (items_of values) ≡ values_tokens values ++ Token.end_array ∷ []
items_are [] = refl
items_are (value ∷ values) =
    ap (λ (ts : List Token). json_tokens value ++ ts) (items_are values)
    ∙ sym (append_assoc (json_tokens value) (values_tokens values) (Token.end_array ∷ []))

-- a member: a key, and then its value
pub one_field : {a new : List Token} (old : List Token) (k : List ℕ) (value : Json) → a ≡ old ++ Token.key k ∷ [] → new ≡ a ++ json_tokens value →
    new ≡ old ++ fields_tokens ((k, value) ∷ [])
one_field old k value e f =
    f ∙ ap (λ (ts : List Token). ts ++ json_tokens value) e ∙ append_assoc old (Token.key k ∷ []) (json_tokens value)
    ∙ ap (λ (ts : List Token). old ++ Token.key k ∷ ts) (sym (append-nil (json_tokens value)))

-- members, and then more members
pub and_fields : {a new : List Token} (old : List Token) (fields more : List Field) → a ≡ old ++ fields_tokens fields → new ≡ a ++ fields_tokens more →
    new ≡ old ++ fields_tokens (fields ++ more)
and_fields old fields more e f =
    f ∙ ap (λ (ts : List Token). ts ++ fields_tokens more) e ∙ append_assoc old (fields_tokens fields) (fields_tokens more)
    ∙ ap (λ (ts : List Token). old ++ ts) (sym (fields_append fields more))

-- an object: its beginning, its members and its end
pub one_object : {a b new : List Token} (old : List Token) (fields : List Field) → a ≡ old ++ Token.begin_object ∷ [] → b ≡ a ++ fields_tokens fields →
    new ≡ b ++ Token.end_object ∷ [] → new ≡ old ++ json_tokens (object_of fields)
one_object old fields e f g =
    g ∙ ap (λ (ts : List Token). ts ++ Token.end_object ∷ [])
    (f ∙ ap (λ (ts : List Token). ts ++ fields_tokens fields) e ∙ append_assoc old (Token.begin_object ∷ []) (fields_tokens fields))
    ∙ append_assoc old (Token.begin_object ∷ fields_tokens fields) (Token.end_object ∷ [])
    ∙ ap (λ (ts : List Token). old ++ Token.begin_object ∷ ts) (sym (members_are fields))

-- an array: its beginning, its items and its end
pub one_array : {a b new : List Token} (old : List Token) (values : List Json) → a ≡ old ++ Token.begin_array ∷ [] → b ≡ a ++ values_tokens values →
    new ≡ b ++ Token.end_array ∷ [] → new ≡ old ++ json_tokens (array_of values)
one_array old values e f g =
    g ∙ ap (λ (ts : List Token). ts ++ Token.end_array ∷ [])
    (f ∙ ap (λ (ts : List Token). ts ++ values_tokens values) e ∙ append_assoc old (Token.begin_array ∷ []) (values_tokens values))
    ∙ append_assoc old (Token.begin_array ∷ values_tokens values) (Token.end_array ∷ [])
    ∙ ap (λ (ts : List Token). old ++ Token.begin_array ∷ ts) (sym (items_are values))

-- items, and then one more
pub one_more : {a new : List Token} (old : List Token) (values : List Json) (value : Json) → a ≡ old ++ values_tokens values → new ≡ a ++ json_tokens value →
    new ≡ old ++ values_tokens (values ++ value ∷ [])
one_more old values value e f =
    f ∙ ap (λ (ts : List Token). ts ++ json_tokens value) e ∙ append_assoc old (values_tokens values) (json_tokens value)
    ∙ ap (λ (ts : List Token). old ++ (values_tokens values ++ ts)) (sym (append-nil (json_tokens value)))
    ∙ ap (λ (ts : List Token). old ++ ts) (sym (values_append values (value ∷ [])))

-- items, and then more items
pub and_values : {a new : List Token} (old : List Token) (values more : List Json) → a ≡ old ++ values_tokens values → new ≡ a ++ values_tokens more →
    new ≡ old ++ values_tokens (values ++ more)
and_values old values more e f =
    f ∙ ap (λ (ts : List Token). ts ++ values_tokens more) e ∙ append_assoc old (values_tokens values) (values_tokens more)
    ∙ ap (λ (ts : List Token). old ++ ts) (sym (values_append values more))

-- members one by one
pub in_two : {a new : List Token} (old : List Token) (p q : Field) → a ≡ old ++ fields_tokens (p ∷ []) → new ≡ a ++ fields_tokens (q ∷ []) →
    new ≡ old ++ fields_tokens (p ∷ q ∷ [])
in_two old p q e f = and_fields old (p ∷ []) (q ∷ []) e f

pub in_three : {a b new : List Token} (old : List Token) (p q r : Field) → a ≡ old ++ fields_tokens (p ∷ []) → b ≡ a ++ fields_tokens (q ∷ []) →
    new ≡ b ++ fields_tokens (r ∷ []) → new ≡ old ++ fields_tokens (p ∷ q ∷ r ∷ [])
in_three old p q r e f g = and_fields old (p ∷ q ∷ []) (r ∷ []) (in_two old p q e f) g

pub in_four : {a b c new : List Token} (old : List Token) (p q r s : Field) → a ≡ old ++ fields_tokens (p ∷ []) → b ≡ a ++ fields_tokens (q ∷ []) →
    c ≡ b ++ fields_tokens (r ∷ []) → new ≡ c ++ fields_tokens (s ∷ []) → new ≡ old ++ fields_tokens (p ∷ q ∷ r ∷ s ∷ [])
in_four old p q r s e f g h = and_fields old (p ∷ q ∷ r ∷ []) (s ∷ []) (in_three old p q r e f g) h

pub in_five : {a b c d new : List Token} (old : List Token) (p q r s t : Field) → a ≡ old ++ fields_tokens (p ∷ []) → b ≡ a ++ fields_tokens (q ∷ []) →
    c ≡ b ++ fields_tokens (r ∷ []) → d ≡ c ++ fields_tokens (s ∷ []) → new ≡ d ++ fields_tokens (t ∷ []) → new ≡ old ++ fields_tokens (p ∷ q ∷ r ∷ s ∷ t ∷ [])
in_five old p q r s t e f g h i = and_fields old (p ∷ q ∷ r ∷ s ∷ []) (t ∷ []) (in_four old p q r s e f g h) i

pub in_seven : {a b c d x y new : List Token} (old : List Token) (p q r s t u v : Field) → a ≡ old ++ fields_tokens (p ∷ []) → b ≡ a ++ fields_tokens (q ∷ []) →
    c ≡ b ++ fields_tokens (r ∷ []) → d ≡ c ++ fields_tokens (s ∷ []) → x ≡ d ++ fields_tokens (t ∷ []) → y ≡ x ++ fields_tokens (u ∷ []) →
    new ≡ y ++ fields_tokens (v ∷ []) → new ≡ old ++ fields_tokens (p ∷ q ∷ r ∷ s ∷ t ∷ u ∷ v ∷ [])
in_seven old p q r s t u v e f g h i j k =
    and_fields old (p ∷ q ∷ r ∷ s ∷ t ∷ u ∷ []) (v ∷ []) (and_fields old (p ∷ q ∷ r ∷ s ∷ t ∷ []) (u ∷ []) (in_five old p q r s t e f g h i) j) k

-- items that are each made of one thing, and then the next one
pub one_taken : {X : Type 0} {a new : List Token} (f : X → Json) (old : List Token) (xs : List X) (x : X) → a ≡ old ++ values_tokens (map f xs) →
    new ≡ a ++ json_tokens (f x) → new ≡ old ++ values_tokens (map f (xs ++ x ∷ []))
one_taken f old xs x e g = one_more old (map f xs) (f x) e g ∙ ap (λ (vs : List Json). old ++ values_tokens vs) (sym (map-append f xs (x ∷ [])))
