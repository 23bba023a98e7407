-- What is written is read back.
use Rattle.std.proofs.Common.{◌≡◌, ℕ, suc, ◌+◌, ◌<◌, ◌≤◌, Bool, true, false, not, if◌then◌else◌, List, [], ◌∷◌, ◌++◌, length, nat_lt, Option, Some, None, option_map, option_and_then, refl, sym, ap, subst, ◌∙◌, arith, append-nil}
use Rattle.std.proofs.lemmas.Bool.Decides.{nat_tests}
use Rattle.mintc_senses_expressions.specs.declared.signs.Sign.TheVariants as kind
use Rattle.mintc_senses_expressions.specs.Expressions.{Expression, inverse, both, either, exclusive}
use Rattle.mintc_senses_expressions.specs.Symbols.{Symbol, word, sign, symbols_of}
use Rattle.mintc_senses_expressions.specs.Grammar.{of_word, Strength, alternatives, terms, differences, primed, signed, plain, Writes, a_word, in_parentheses, unsigned, inverted, twice, unprimed, with_prime, one_difference, more_differences, one_term, more_terms, neighbours, one_alternative, more_alternatives, IsExpressionOf}
use Rattle.mintc_senses_expressions.specs.Reading.{Level, State, on_expressions, joined, sum_of, past_difference, past_product, past_sum, ready, turned_if, with_operand, inverting, waiting, standing, among, start, read, expression_of}

abbrev Symbols : Type 0
Symbols = List Symbol

abbrev Levels : Type 0
Levels = List (Level Expression)

abbrev Part : Type 0
Part = Option Expression

abbrev read_on : Symbols → Levels → Level Expression → Option Expression
read_on ys os l = read on_expressions of_word ys (among os l)

-- what these symbols do to a level
abbrev Leads : Symbols → Levels → Level Expression → Level Expression → Type 0
Leads ys os l m = (rest : Symbols) → read_on (ys ++ rest) os l ≡ read_on rest os m

abbrev Fits : ℕ → Levels → Type 0
Fits room os = room + length os ≤ 64

-- What is read of an expression of a strength, by where the level stands before it.
abbrev Reads : Strength → ℕ → Expression → Symbols → Type 0
Reads plain room e ys = (os : Levels) (l : Level Expression) (s p d : Part) (b : Bool) → ready on_expressions l ≡ waiting s p d b → Fits room os →
    Leads ys os l (standing s p d (turned_if on_expressions b e))
Reads signed room e ys = (os : Levels) (l : Level Expression) (s p d : Part) → ready on_expressions l ≡ waiting s p d false → Fits room os →
    Leads ys os l (standing s p d e)
Reads primed room e ys = (os : Levels) (l : Level Expression) (s p d : Part) → ready on_expressions l ≡ waiting s p d false → Fits room os →
    Leads ys os l (standing s p d e)
Reads differences room e ys = (os : Levels) (l : Level Expression) (s p : Part) → ready on_expressions l ≡ waiting s p None false → Fits room os →
    (d : Part) × (a : Expression) × Leads ys os l (standing s p d a) × (joined exclusive d a ≡ e)
Reads terms room e ys = (os : Levels) (l : Level Expression) (s : Part) → ready on_expressions l ≡ waiting s None None false → Fits room os →
    (p : Part) × (d : Part) × (a : Expression) × Leads ys os l (standing s p d a) × (joined both p (joined exclusive d a) ≡ e)
Reads alternatives room e ys = (os : Levels) → Fits room os →
    (s : Part) × (p : Part) × (d : Part) × (a : Expression) × Leads ys os (waiting None None None false) (standing s p d a)
    × (joined either s (joined both p (joined exclusive d a)) ≡ e)

assoc : (xs ys zs : Symbols) → (xs ++ ys) ++ zs ≡ xs ++ (ys ++ zs)
assoc [] ys zs = refl
assoc (x ∷ xs) ys zs = ap (λ l. x ∷ l) (assoc xs ys zs)

-- first some symbols, then others
leads-on : (ys zs : Symbols) (os : Levels) (l m k : Level Expression) → Leads ys os l m → Leads zs os m k → Leads (ys ++ zs) os l k
leads-on ys zs os l m k f g rest = ap (λ t. read_on t os l) (assoc ys zs rest) ∙ f (zs ++ rest) ∙ g rest

read-word : (room : ℕ) (w : List ℕ) → Reads plain room (of_word w) (word w ∷ [])
read-word room w os l s p d b h fits rest = ap (λ m. read_on rest os (with_operand on_expressions m (of_word w))) h

read-opening : (os : Levels) (l : Level Expression) (rest : Symbols) → length os < 64 →
    read_on (sign kind.Opening ∷ rest) os l ≡ read_on rest (ready on_expressions l ∷ os) (waiting None None None false)
read-opening os l rest h =
    let e : nat_lt (length os) 64 ≡ true = grind (arith, nat_tests) in
    ap (λ b. option_and_then (read on_expressions of_word rest) (if b then Some (among (ready on_expressions l ∷ os) (waiting None None None false)) else None)) e

read-parentheses : (room : ℕ) (e : Expression) (ys : Symbols) → Reads alternatives room e ys → Reads plain (suc room) e (sign kind.Opening ∷ ys ++ sign kind.Closing ∷ [])
read-parentheses room e ys h os l s p d b waits fits rest =
    let few : length os < 64 = omega arith in
    let deep : room + length (ready on_expressions l ∷ os) ≤ 64 = omega arith in
    let inner = h (ready on_expressions l ∷ os) deep in
    read-opening os l ((ys ++ sign kind.Closing ∷ []) ++ rest) few
    ∙ ap (λ t. read_on t (ready on_expressions l ∷ os) (waiting None None None false)) (assoc ys (sign kind.Closing ∷ []) rest)
    ∙ inner.4 (sign kind.Closing ∷ rest)
    ∙ ap (λ a. read_on rest os (with_operand on_expressions (ready on_expressions l) a)) inner.5
    ∙ ap (λ m. read_on rest os (with_operand on_expressions m e)) waits

read-unsigned : (room : ℕ) (e : Expression) (ys : Symbols) → Reads plain room e ys → Reads signed room e ys
read-unsigned room e ys h os l s p d waits fits = h os l s p d false waits fits

-- a `!`
inversion : (os : Levels) (l : Level Expression) (s p d : Part) (b : Bool) → ready on_expressions l ≡ waiting s p d b → Leads (sign kind.Inversion ∷ []) os l (waiting s p d (not b))
inversion os l s p d b waits rest = ap (λ m. read_on rest os (inverting m)) waits

read-inverted : (room : ℕ) (e : Expression) (ys : Symbols) → Reads plain room e ys → Reads signed room (inverse e) (sign kind.Inversion ∷ ys)
read-inverted room e ys h os l s p d waits fits rest =
    inversion os l s p d false waits (ys ++ rest) ∙ h os (waiting s p d true) s p d true refl fits rest

read-twice : (room : ℕ) (e : Expression) (ys : Symbols) → Reads signed room e ys → Reads signed room e (sign kind.Inversion ∷ sign kind.Inversion ∷ ys)
read-twice room e ys h os l s p d waits fits rest =
    inversion os l s p d false waits (sign kind.Inversion ∷ (ys ++ rest))
    ∙ inversion os (waiting s p d true) s p d true refl (ys ++ rest)
    ∙ h os (waiting s p d false) s p d refl fits rest

read-prime : (room : ℕ) (e : Expression) (ys : Symbols) → Reads primed room e ys → Reads primed room (inverse e) (ys ++ sign kind.Prime ∷ [])
read-prime room e ys h os l s p d waits fits =
    leads-on ys (sign kind.Prime ∷ []) os l (standing s p d e) (standing s p d (inverse e)) (h os l s p d waits fits) (λ rest. refl)

read-difference : (room : ℕ) (e : Expression) (ys : Symbols) → Reads primed room e ys → Reads differences room e ys
read-difference room e ys h os l s p waits fits = (None, e, h os l s p None waits fits, refl)

read-differences : (room : ℕ) (e f : Expression) (ys zs : Symbols) → Reads differences room e ys → Reads primed room f zs → Reads differences room (exclusive e f) (ys ++ sign kind.Exclusive ∷ zs)
read-differences room e f ys zs h k os l s p waits fits =
    let one = h os l s p waits fits in
    let behind : Leads (sign kind.Exclusive ∷ zs) os (standing s p one.0 one.1) (standing s p (Some e) f) =
    λ rest. ap (λ x. read_on (zs ++ rest) os (waiting s p (Some x) false)) one.3 ∙ k os (waiting s p (Some e) false) s p (Some e) refl fits rest in
    (Some e, f, leads-on ys (sign kind.Exclusive ∷ zs) os l (standing s p one.0 one.1) (standing s p (Some e) f) one.2 behind, refl)

read-term : (room : ℕ) (e : Expression) (ys : Symbols) → Reads differences room e ys → Reads terms room e ys
read-term room e ys h os l s waits fits =
    let one = h os l s None waits fits in
    (None, one.0, one.1, one.2, one.3)

read-terms : (room : ℕ) (e f : Expression) (ys zs : Symbols) → Reads terms room e ys → Reads differences room f zs → Reads terms room (both e f) (ys ++ sign kind.Conjunction ∷ zs)
read-terms room e f ys zs h k os l s waits fits =
    let one = h os l s waits fits in
    let next = k os (waiting s (Some e) None false) s (Some e) refl fits in
    let behind : Leads (sign kind.Conjunction ∷ zs) os (standing s one.0 one.1 one.2) (standing s (Some e) next.0 next.1) =
    λ rest. ap (λ x. read_on (zs ++ rest) os (waiting s (Some x) None false)) one.4 ∙ next.2 rest in
    (Some e, next.0, next.1, leads-on ys (sign kind.Conjunction ∷ zs) os l (standing s one.0 one.1 one.2) (standing s (Some e) next.0 next.1) one.3 behind, ap (both e) next.3)

read-neighbours : (room : ℕ) (e f : Expression) (ys zs : Symbols) → Reads terms room e ys → Reads differences room f zs → Reads terms room (both e f) (ys ++ zs)
read-neighbours room e f ys zs h k os l s waits fits =
    let one = h os l s waits fits in
    let next = k os (standing s one.0 one.1 one.2) s (Some e) (ap (λ x. waiting s (Some x) None false) one.4) fits in
    (Some e, next.0, next.1, leads-on ys zs os l (standing s one.0 one.1 one.2) (standing s (Some e) next.0 next.1) one.3 next.2, ap (both e) next.3)

read-alternative : (room : ℕ) (e : Expression) (ys : Symbols) → Reads terms room e ys → Reads alternatives room e ys
read-alternative room e ys h os fits =
    let one = h os (waiting None None None false) None refl fits in
    (None, one.0, one.1, one.2, one.3, one.4)

read-alternatives : (room : ℕ) (e f : Expression) (ys zs : Symbols) → Reads alternatives room e ys → Reads terms room f zs → Reads alternatives room (either e f) (ys ++ sign kind.Disjunction ∷ zs)
read-alternatives room e f ys zs h k os fits =
    let one = h os fits in
    let next = k os (waiting (Some e) None None false) (Some e) refl fits in
    let behind : Leads (sign kind.Disjunction ∷ zs) os (standing one.0 one.1 one.2 one.3) (standing (Some e) next.0 next.1 next.2) =
    λ rest. ap (λ x. read_on (zs ++ rest) os (waiting (Some x) None None false)) one.5 ∙ next.3 rest in
    (Some e, next.0, next.1, next.2, leads-on ys (sign kind.Disjunction ∷ zs) os (waiting None None None false) (standing one.0 one.1 one.2 one.3) (standing (Some e) next.0 next.1 next.2) one.4 behind, ap (either e) next.4)

reads : (room : ℕ) (k : Strength) (e : Expression) (ys : Symbols) → Writes room k e ys → Reads k room e ys
reads _ _ _ _ (a_word r w) = read-word r w
reads _ _ _ _ (in_parentheses r f zs h) = read-parentheses r f zs (reads r alternatives f zs h)
reads _ _ _ _ (unsigned r f zs h) = read-unsigned r f zs (reads r plain f zs h)
reads _ _ _ _ (inverted r f zs h) = read-inverted r f zs (reads r plain f zs h)
reads _ _ _ _ (twice r f zs h) = read-twice r f zs (reads r signed f zs h)
reads _ _ _ _ (unprimed r f zs h) = reads r signed f zs h
reads _ _ _ _ (with_prime r f zs h) = read-prime r f zs (reads r primed f zs h)
reads _ _ _ _ (one_difference r f zs h) = read-difference r f zs (reads r primed f zs h)
reads _ _ _ _ (more_differences r f g zs us h i) = read-differences r f g zs us (reads r differences f zs h) (reads r primed g us i)
reads _ _ _ _ (one_term r f zs h) = read-term r f zs (reads r differences f zs h)
reads _ _ _ _ (more_terms r f g zs us h i) = read-terms r f g zs us (reads r terms f zs h) (reads r differences g us i)
reads _ _ _ _ (neighbours r f g zs us h i) = read-neighbours r f g zs us (reads r terms f zs h) (reads r differences g us i)
reads _ _ _ _ (one_alternative r f zs h) = read-alternative r f zs (reads r terms f zs h)
reads _ _ _ _ (more_alternatives r f g zs us h i) = read-alternatives r f g zs us (reads r alternatives f zs h) (reads r terms g us i)

pub read-back : (text : List ℕ) (e : Expression) → IsExpressionOf text e → expression_of text ≡ Some e
read-back text e h =
    let whole = reads 64 alternatives e (symbols_of text) h [] (omega arith) in
    ap (λ t. read_on t [] (waiting None None None false)) (sym (append-nil (symbols_of text)))
    ∙ whole.4 [] ∙ ap (λ x. Some x) whole.5
