-- Ports that are left out, by sets of names.
use Rattle.std.proofs.Common.{◌≡◌, ◌+◌, ◌∙◌, ℕ, suc, List, [], ◌∷◌, ◌++◌, length, position, nat_lt, bytes_eq, Bool, true, false, not, ◌||◌, ◌&&◌, cond, is_some, Some, None, refl, sym, ap, subst, arith}
use Rattle.std.specs.Prelude.{filter}
use Rattle.std.specs.List.{count_by, fold, list_any, position_or_len}
use Rattle.std.proofs.lemmas.Bool.Decides.{nat_tests}
use Rattle.std.proofs.lemmas.List.Sums.{length-filter}
use Rattle.std.proofs.lemmas.Slice.Eq.{bytes_eq-Decides}
use Rattle.mintc_clock.specs.declared.clock.Clock.{Clock}
use Rattle.mintc_flatten_hierarchy.specs.declared.hierarchy.TopPort.{TopPort}
use Rattle.mintc_text_names.specs.Names.{is_among, with_name}
use Rattle.mintcx_lint.specs.Leaving.{is_left}
use Rattle.mintcx_lint.specs.Ports.{is_named, is_on, names_of, unlisted}

-- a look-up finds what is there
place_by : (b : Bool) (n L : ℕ) (a : Bool) → nat_lt n L ≡ a → nat_lt (cond (not b) (1 + n) 0) (suc L) ≡ (b || a)
place_by true n L a h = grind (arith, nat_tests)
place_by false n L a h = let e : nat_lt (1 + n) (suc L) ≡ nat_lt n L = grind (arith, nat_tests) in e ∙ h

below : {X : Type 0} (p : X → Bool) (xs : List X) → nat_lt (position_or_len p xs) (length xs) ≡ list_any p xs
below p [] = refl
below p (x ∷ xs) = place_by (p x) (position_or_len p xs) (length xs) (list_any p xs) (below p xs)

some_cond : (b : Bool) (n : ℕ) → is_some (cond b (Some n) None) ≡ b
some_cond true n = refl
some_cond false n = refl

pub found_is : (name : List ℕ) (names : List (List ℕ)) → is_some (position (bytes_eq name) names) ≡ is_among name names
found_is name names = some_cond (nat_lt (position_or_len (bytes_eq name) names) (length names)) (position_or_len (bytes_eq name) names) ∙ below (bytes_eq name) names

-- what is among names that are taken in one by one
or_false : (b : Bool) → (b || false) ≡ b
or_false true = refl
or_false false = refl

or_true : (b : Bool) → (b || true) ≡ true
or_true true = refl
or_true false = refl

or_assoc : (a b c : Bool) → ((a || b) || c) ≡ (a || (b || c))
or_assoc true b c = refl
or_assoc false b c = refl

among_last : (name x : List ℕ) (xs : List (List ℕ)) → is_among name (xs ++ x ∷ []) ≡ (is_among name xs || bytes_eq name x)
among_last name x [] = or_false (bytes_eq name x)
among_last name x (y ∷ xs) = ap (λ b. bytes_eq name y || b) (among_last name x xs) ∙ sym (or_assoc (bytes_eq name y) (is_among name xs) (bytes_eq name x))

there_already : (name x : List ℕ) (seen : List (List ℕ)) (b : Bool) → bytes_eq name x ≡ b → is_among x seen ≡ true → is_among name seen ≡ (is_among name seen || b)
there_already name x seen true e h =
    let same : x ≡ name = sym ((bytes_eq-Decides name x).0 e) in
    let in_it : is_among name seen ≡ true = subst (λ (n : List ℕ). is_among n seen ≡ true) same h in
    in_it ∙ sym (or_true (is_among name seen))
there_already name x seen false e h = sym (or_false (is_among name seen))

with_by : (name x : List ℕ) (seen : List (List ℕ)) (b : Bool) → is_among x seen ≡ b → is_among name (cond b seen (seen ++ x ∷ [])) ≡ (is_among name seen || bytes_eq name x)
with_by name x seen true h = there_already name x seen (bytes_eq name x) refl h
with_by name x seen false h = among_last name x seen

among_fold : (name : List ℕ) (seen names : List (List ℕ)) → is_among name (fold with_name seen names) ≡ (is_among name seen || is_among name names)
among_fold name seen [] = sym (or_false (is_among name seen))
among_fold name seen (x ∷ names) =
    among_fold name (with_name seen x) names
    ∙ ap (λ b. b || is_among name names) (with_by name x seen (is_among x seen) refl)
    ∙ or_assoc (is_among name seen) (bytes_eq name x) (is_among name names)

-- those that are left out by the names of listed ports are those that no phase and no list names
left_is : (clock : Clock) (p : TopPort) → is_left clock.phases (fold with_name (fold with_name [] (names_of clock.inputs)) (names_of clock.outputs)) p ≡ not (is_named clock p.name)
left_is clock p =
    ap (λ b. not (list_any (is_on p.name) clock.phases || b))
    (among_fold p.name (fold with_name [] (names_of clock.inputs)) (names_of clock.outputs)
    ∙ ap (λ b. b || is_among p.name (names_of clock.outputs)) (among_fold p.name [] (names_of clock.inputs)))

filter_same : {X : Type 0} (p q : X → Bool) → ((x : X) → p x ≡ q x) → (xs : List X) → filter p xs ≡ filter q xs
filter_same p q same [] = refl
filter_same p q same (x ∷ xs) = rw (same x, filter_same p q same xs) refl

pub left_are : (ports : List TopPort) (clock : Clock) (listed : List (List ℕ)) → listed ≡ fold with_name (fold with_name [] (names_of clock.inputs)) (names_of clock.outputs) →
    filter (is_left clock.phases listed) ports ≡ unlisted ports clock
left_are ports clock listed is = rw is (filter_same (is_left clock.phases (fold with_name (fold with_name [] (names_of clock.inputs)) (names_of clock.outputs))) (λ (p : TopPort). not (is_named clock p.name)) (left_is clock) ports)

-- those of a direction are counted by one test
and_yes : {X : Type 0} (a : Bool) (u v : X) → cond (a && true) u v ≡ cond a u v
and_yes true u v = refl
and_yes false u v = refl

and_no : {X : Type 0} (a : Bool) (u v : X) → cond (a && false) u v ≡ v
and_no true u v = refl
and_no false u v = refl

by_test : (d : TopPort → Bool) (x : TopPort) (both left : List TopPort) (b : Bool) → both ≡ filter d left → cond (d x && b) (x ∷ both) both ≡ filter d (cond b (x ∷ left) left)
by_test d x both left true e = and_yes (d x) (x ∷ both) both ∙ ap (λ (m : List TopPort). cond (d x) (x ∷ m) m) e
by_test d x both left false e = and_no (d x) (x ∷ both) both ∙ e

filters_are : (d t : TopPort → Bool) (ports : List TopPort) → filter (λ p. d p && t p) ports ≡ filter d (filter t ports)
filters_are d t [] = refl
filters_are d t (x ∷ xs) = by_test d x (filter (λ p. d p && t p) xs) (filter t xs) (t x) (filters_are d t xs)

pub counts_are : (d t : TopPort → Bool) (ports : List TopPort) → count_by (λ p. d p && t p) ports ≡ count_by d (filter t ports)
counts_are d t ports =
    sym (length-filter (λ p. d p && t p) ports) ∙ ap length (filters_are d t ports) ∙ length-filter d (filter t ports)
