-- Pins one after the other.
use Rattle.std.proofs.Common.{◌≡◌, ℕ, ◌+◌, nat_le, nat_lt, Bool, true, false, not, ◌&&◌, ◌||◌, List, [], ◌∷◌, ◌++◌, length, is_some, bytes_eq, refl, sym, ap, ◌∙◌, arith, length-append, true≢false, inl, inr, ◌⊎◌}
use Rattle.std.specs.List.{list_any, list_all}
use Rattle.std.proofs.lemmas.Bool.{and_parts}
use Rattle.std.proofs.lemmas.Bool.Decides.{nat_tests}
use Rattle.std.proofs.lemmas.List.{map-append}
use Rattle.std.proofs.lemmas.List.Folds.{list_all-append, list_any-append}
use Rattle.std.proofs.lemmas.Slice.Eq.{bytes_eq-Decides}
use Rattle.mintc_toml.specs.Rules.{is_name}
use Rattle.mintc_cells.specs.Pins.{is_distinct}
use Rattle.mintc_liberty_cell.specs.declared.pins.Role.{Role}
use Rattle.mintc_liberty_cell.specs.declared.pins.Role.TheVariants.{Input, Output}
use Rattle.mintc_liberty_cell.specs.Expressions.{is_among}
use Rattle.mintc_liberty_cell.specs.Meaning.{Pin, is_pin, fits, are_pins, names, with_role, inputs, outputs, others}

both : {a b : Bool} → a ≡ true → b ≡ true → (a && b) ≡ true
both {a} {b} e f = rw (e, f) refl

-- two names are one where the test says so
pub same-name : (x y : List ℕ) → bytes_eq x y ≡ true → x ≡ y
same-name x y e = (bytes_eq-Decides x y).0 e

pub is-same : (x : List ℕ) → bytes_eq x x ≡ true
is-same x = (bytes_eq-Decides x x).1 refl

pub same-comm : (x y : List ℕ) → bytes_eq x y ≡ bytes_eq y x
same-comm x y = grind (arith, bytes_eq-Decides x y, bytes_eq-Decides y x)

or-false : {a b : Bool} → a ≡ false → b ≡ false → (a || b) ≡ false
or-false {a} {b} e f = rw (e, f) refl

-- names that come first among distinct ones are distinct
distinct-front : (xs ys : List (List ℕ)) → is_distinct (xs ++ ys) ≡ true → is_distinct xs ≡ true
distinct-front [] ys h = refl
distinct-front (x ∷ xs) ys h =
    let parts = and_parts (not (list_any (bytes_eq x) (xs ++ ys))) (is_distinct (xs ++ ys)) h in
    both (fresh (list_any (bytes_eq x) xs) (list_any (bytes_eq x) ys) (ap not (sym (list_any-append (bytes_eq x) xs ys)) ∙ parts.0)) (distinct-front xs ys parts.1)
  where
    fresh : (a b : Bool) → not (a || b) ≡ true → not a ≡ true
    fresh a b h = grind arith

-- one more name
distinct-more : (xs : List (List ℕ)) (x : List ℕ) → is_distinct (xs ++ x ∷ []) ≡ (is_distinct xs && not (is_among xs x))
distinct-more [] x = refl
distinct-more (y ∷ xs) x =
    ap (λ b. not b && is_distinct (xs ++ x ∷ [])) (list_any-append (bytes_eq y) xs (x ∷ []))
    ∙ ap (λ b. not (list_any (bytes_eq y) xs || (bytes_eq y x || false)) && b) (distinct-more xs x)
    ∙ ap (λ b. not (list_any (bytes_eq y) xs || (b || false)) && (is_distinct xs && not (is_among xs x))) (same-comm y x)
    ∙ regroup (list_any (bytes_eq y) xs) (bytes_eq x y) (is_distinct xs) (is_among xs x)
  where
    regroup : (a b c d : Bool) → (not (a || (b || false)) && (c && not d)) ≡ ((not a && c) && not (b || d))
    regroup a b c d = grind arith

-- where some pins fail the rules, so they do with more
pub fails-with-more : (ps qs : List Pin) → are_pins ps ≡ false → are_pins (ps ++ qs) ≡ false
fails-with-more ps qs h = by (are_pins (ps ++ qs)) refl
  where
    by : (v : Bool) → are_pins (ps ++ qs) ≡ v → v ≡ false
    by false e = refl
    by true e =
        let parts = and_parts (fits (ps ++ qs)) (is_distinct (names (ps ++ qs))) e in
        let room = and_parts (nat_le (length (ps ++ qs)) 80) (list_all is_pin (ps ++ qs)) parts.0 in
        let few : nat_le (length ps) 80 ≡ true = grind (arith, nat_tests, room.0, length-append ps qs) in
        let all = and_parts (list_all is_pin ps) (list_all is_pin qs) (sym (list_all-append is_pin ps qs) ∙ room.1) in
        let apart = distinct-front (names ps) (names qs) (ap is_distinct (sym (map-append (λ (p : Pin). p.name) ps qs)) ∙ parts.1) in
        sym (both (both few all.0) apart) ∙ h

and-one : (b : Bool) → (b && true) ≡ b
and-one b = grind arith

-- one more pin
pub one-more : (ps : List Pin) (p : Pin) → are_pins ps ≡ true → are_pins (ps ++ p ∷ []) ≡ ((nat_le (length ps + 1) 80 && is_pin p) && not (is_among (names ps) p.name))
one-more ps p h =
    let parts = and_parts (fits ps) (is_distinct (names ps)) h in
    let room = and_parts (nat_le (length ps) 80) (list_all is_pin ps) parts.0 in
    ap (λ n. (nat_le n 80 && list_all is_pin (ps ++ p ∷ [])) && is_distinct (names (ps ++ p ∷ []))) (length-append ps (p ∷ []))
    ∙ ap (λ b. (nat_le (length ps + 1) 80 && b) && is_distinct (names (ps ++ p ∷ []))) (list_all-append is_pin ps (p ∷ []))
    ∙ ap (λ b. (nat_le (length ps + 1) 80 && (b && (is_pin p && true))) && is_distinct (names (ps ++ p ∷ []))) room.1
    ∙ ap (λ ns. (nat_le (length ps + 1) 80 && (is_pin p && true)) && is_distinct ns) (map-append (λ (q : Pin). q.name) ps (p ∷ []))
    ∙ ap (λ b. (nat_le (length ps + 1) 80 && (is_pin p && true)) && b) (distinct-more (names ps) p.name)
    ∙ ap (λ b. (nat_le (length ps + 1) 80 && (is_pin p && true)) && (b && not (is_among (names ps) p.name))) parts.1
    ∙ ap (λ b. (nat_le (length ps + 1) 80 && b) && not (is_among (names ps) p.name)) (and-one (is_pin p))

-- pins of a role are pins

and-left : (a b : Bool) → (a && b) ≡ true → a ≡ true
and-left a b e = (and_parts a b e).0

and-right : (a b : Bool) → (a && b) ≡ true → b ≡ true
and-right a b e = (and_parts a b e).1

or-true : (a b : Bool) → (a || b) ≡ true → (a ≡ true) ⊎ (b ≡ true)
or-true a b h = grind arith

or-right : (a b : Bool) → b ≡ true → (a || b) ≡ true
or-right a b h = grind arith

not-true : (a : Bool) → not a ≡ true → a ≡ false
not-true a h = grind arith

not-false : (a : Bool) → a ≡ false → not a ≡ true
not-false a h = grind arith

-- what would follow from true doesn't
false-if : (b : Bool) → (b ≡ true → ⊥) → b ≡ false
false-if b n = grind (arith, n)

pub named : (r : Role) (ps : List Pin) → list_all is_pin ps ≡ true → list_all is_name (names (with_role r ps)) ≡ true
named r [] h = refl
named r (p ∷ ps) h = grind (arith, named r ps)

pub among-with : (r : Role) (ps : List Pin) (x : List ℕ) → is_among (names (with_role r ps)) x ≡ true → is_among (names ps) x ≡ true
among-with r [] x h = h
among-with r (p ∷ ps) x h = grind (arith, among-with r ps x)

pub distinct-with : (r : Role) (ps : List Pin) → is_distinct (names ps) ≡ true → is_distinct (names (with_role r ps)) ≡ true
distinct-with r [] h = refl
distinct-with r (p ∷ ps) h = grind (arith, distinct-with r ps, among-with r ps p.name)

-- no pin is an input and an output
pub apart : (ps : List Pin) (x : List ℕ) → is_distinct (names ps) ≡ true → is_among (inputs ps) x ≡ true → is_among (outputs ps) x ≡ false
apart [] x d h = refl
apart (p ∷ ps) x d h = grind (arith, apart ps x, among-with Input ps x, among-with Output ps x, same-name x p.name)

pub joined : (xs ys : List (List ℕ)) → is_distinct xs ≡ true → is_distinct ys ≡ true → ((x : List ℕ) → is_among xs x ≡ true → is_among ys x ≡ false) → is_distinct (xs ++ ys) ≡ true
joined [] ys dx dy n = dy
joined (x ∷ xs) ys dx dy n =
    both (not-false _ (list_any-append (bytes_eq x) xs ys ∙ or-false (not-true _ (and-left _ _ dx)) (n x (ap (λ b. b || is_among xs x) (is-same x)))))
    (joined xs ys (and-right _ _ dx) dy (λ z h. n z (or-right (bytes_eq z x) (is_among xs z) h)))

-- the names that are none of two
pub named-others : (a b : List ℕ) (ns : List (List ℕ)) → list_all is_name ns ≡ true → list_all is_name (others a b ns) ≡ true
named-others a b [] h = refl
named-others a b (n ∷ ns) h = grind (arith, named-others a b ns)

pub among-others : (a b : List ℕ) (ns : List (List ℕ)) (x : List ℕ) → is_among (others a b ns) x ≡ true → (is_among ns x ≡ true) × (bytes_eq x a ≡ false) × (bytes_eq x b ≡ false)
among-others a b [] x h = absurd (true≢false (sym h))
among-others a b (n ∷ ns) x h = grind (arith, among-others a b ns x, same-name x n)

pub distinct-others : (a b : List ℕ) (ns : List (List ℕ)) → is_distinct ns ≡ true → is_distinct (others a b ns) ≡ true
distinct-others a b [] h = refl
distinct-others a b (n ∷ ns) h = grind (arith, distinct-others a b ns, among-others a b ns n)

-- a name that is among names
pub name-among : (ns : List (List ℕ)) (x : List ℕ) → list_all is_name ns ≡ true → is_among ns x ≡ true → is_name x ≡ true
name-among [] x h g = absurd (true≢false (sym g))
name-among (n ∷ ns) x h g =
    elim (or-true (bytes_eq x n) (is_among ns x) g) [ inl e ↦ ap is_name (same-name x n e) ∙ and-left _ _ h | inr e ↦ name-among ns x (and-right _ _ h) e ]

-- two inputs and others beside the outputs
pub two-and-others : (ps : List Pin) (a b : List ℕ) → is_distinct (names ps) ≡ true → is_among (inputs ps) a ≡ true → is_among (inputs ps) b ≡ true → bytes_eq a b ≡ false →
    is_distinct ((a ∷ b ∷ others a b (inputs ps)) ++ outputs ps) ≡ true
two-and-others ps a b d ina inb n =
    joined (a ∷ b ∷ others a b (inputs ps)) (outputs ps)
    (both (not-false _ (or-false n (false-if (is_among (others a b (inputs ps)) a) (λ e. true≢false (sym (is-same a) ∙ (among-others a b (inputs ps) a e).1)))))
    (both (not-false _ (false-if (is_among (others a b (inputs ps)) b) (λ e. true≢false (sym (is-same b) ∙ (among-others a b (inputs ps) b e).2)))) (distinct-others a b (inputs ps) (distinct-with Input ps d))))
    (distinct-with Output ps d) (λ x h. apart ps x d (input x h))
  where
    input : (x : List ℕ) → (bytes_eq x a || (bytes_eq x b || is_among (others a b (inputs ps)) x)) ≡ true → is_among (inputs ps) x ≡ true
    input x h = grind (arith, ina, inb, same-name x a, same-name x b, among-others a b (inputs ps) x)

-- one input and others beside the outputs
pub one-and-others : (ps : List Pin) (a : List ℕ) → is_distinct (names ps) ≡ true → is_among (inputs ps) a ≡ true → is_distinct ((a ∷ others a a (inputs ps)) ++ outputs ps) ≡ true
one-and-others ps a d ina =
    joined (a ∷ others a a (inputs ps)) (outputs ps)
    (both (not-false _ (false-if (is_among (others a a (inputs ps)) a) (λ e. true≢false (sym (is-same a) ∙ (among-others a a (inputs ps) a e).1)))) (distinct-others a a (inputs ps) (distinct-with Input ps d)))
    (distinct-with Output ps d) (λ x h. apart ps x d (input x h))
  where
    input : (x : List ℕ) → (bytes_eq x a || is_among (others a a (inputs ps)) x) ≡ true → is_among (inputs ps) x ≡ true
    input x h = grind (arith, ina, same-name x a, among-others a a (inputs ps) x)

pub inputs-and-outputs : (ps : List Pin) → is_distinct (names ps) ≡ true → is_distinct (inputs ps ++ outputs ps) ≡ true
inputs-and-outputs ps d = joined (inputs ps) (outputs ps) (distinct-with Input ps d) (distinct-with Output ps d) (λ x h. apart ps x d h)

-- one more pin that has a role, and one that has none
one-less : (n : ℕ) → nat_le (n + 1) 80 ≡ nat_lt n 80
one-less n = grind (arith, nat_tests)

pub one-more-with : (ps : List Pin) (p : Pin) → are_pins ps ≡ true → is_some p.has ≡ true → are_pins (ps ++ p ∷ []) ≡ ((nat_lt (length ps) 80 && is_name p.name) && not (is_among (names ps) p.name))
one-more-with ps p h e =
    one-more ps p h ∙ ap (λ b. (b && is_pin p) && not (is_among (names ps) p.name)) (one-less (length ps))
    ∙ ap (λ b. (nat_lt (length ps) 80 && (is_name p.name && b)) && not (is_among (names ps) p.name)) e
    ∙ ap (λ b. (nat_lt (length ps) 80 && b) && not (is_among (names ps) p.name)) (and-one (is_name p.name))
