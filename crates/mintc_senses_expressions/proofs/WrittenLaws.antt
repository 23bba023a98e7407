-- What is read is written so.
use Rattle.std.proofs.Common.{◌≡◌, ℕ, suc, ◌+◌, ◌-◌, ◌<◌, ◌≤◌, Bool, true, false, not, if◌then◌else◌, ◌⊎◌, inl, inr, List, [], ◌∷◌, ◌++◌, length, nat_lt, Option, Some, None, option_map, option_and_then, refl, sym, ap, subst, ◌∙◌, arith, append-nil, append_assoc}
use Rattle.std.proofs.lemmas.Bool.Decides.{nat_tests}
use Rattle.mintc_senses_expressions.specs.declared.signs.Sign.{Sign}
use Rattle.mintc_senses_expressions.specs.declared.signs.Sign.TheVariants as kind
use Rattle.mintc_senses_expressions.specs.Expressions.{Expression, inverse, both, either, exclusive}
use Rattle.mintc_senses_expressions.specs.Symbols.{Symbol, word, sign, symbols_of}
use Rattle.mintc_senses_expressions.specs.Grammar.{of_word, alternatives, terms, differences, primed, signed, plain, Writes, a_word, in_parentheses, unsigned, inverted, twice, unprimed, with_prime, one_difference, more_differences, one_term, more_terms, neighbours, one_alternative, more_alternatives, IsExpressionOf}
use Rattle.mintc_senses_expressions.specs.Reading.{Level, State, on_expressions, joined, difference_of, product_of, sum_of, past_difference, past_product, past_sum, ready_by, ready, turned_if, with_operand, given, inverting, priming, waiting, standing, among, start, opened, passed_out, closed, level_step, sign_step, step, finished, read, expression_of}

abbrev Symbols : Type 0
Symbols = List Symbol

abbrev Part : Type 0
Part = Option Expression

-- `!` signs, an odd number or an even one
data Inversions : Bool → Symbols → Type 0 where
  even : Inversions false []
  odd : Inversions true (sign kind.Inversion ∷ [])
  two : (b : Bool) (ys : Symbols) → Inversions b ys → Inversions b (sign kind.Inversion ∷ sign kind.Inversion ∷ ys)

one-more : (b : Bool) (ys : Symbols) → Inversions b ys → Inversions (not b) (ys ++ sign kind.Inversion ∷ [])
one-more _ _ even = odd
one-more _ _ odd = two false [] even
one-more _ _ (two b ys h) = two (not b) (ys ++ sign kind.Inversion ∷ []) (one-more b ys h)

signs-before : (room : ℕ) (b : Bool) (ys zs : Symbols) (e : Expression) → Inversions b ys → Writes room plain e zs → Writes room signed (turned_if on_expressions b e) (ys ++ zs)
signs-before room _ _ zs e even k = unsigned room e zs k
signs-before room _ _ zs e odd k = inverted room e zs k
signs-before room _ _ zs e (two b ys h) k = twice room (turned_if on_expressions b e) (ys ++ zs) (signs-before room b ys zs e h k)

-- what stands before the last or, the last and, the last exclusive or, and behind all of these
abbrev Sums : ℕ → Part → Symbols → Type 0
Sums room None ys = ys ≡ []
Sums room (Some e) ys = (zs : Symbols) × Writes room alternatives e zs × (ys ≡ zs ++ sign kind.Disjunction ∷ [])

abbrev Products : ℕ → Part → Symbols → Type 0
Products room None ys = ys ≡ []
Products room (Some e) ys = (zs : Symbols) × Writes room terms e zs × ((ys ≡ zs) ⊎ (ys ≡ zs ++ sign kind.Conjunction ∷ []))

abbrev Differing : ℕ → Part → Symbols → Type 0
Differing room None ys = ys ≡ []
Differing room (Some e) ys = (zs : Symbols) × Writes room differences e zs × (ys ≡ zs ++ sign kind.Exclusive ∷ [])

abbrev Operand : ℕ → Bool → Part → Symbols → Type 0
Operand room b None ys = Inversions b ys
Operand room b (Some e) ys = Writes room primed e ys

-- the symbols that a level was read of
record LevelIs (room : ℕ) (l : Level Expression) (ys : Symbols) : Type 0 where
  sums_here : Symbols
  products_here : Symbols
  differing_here : Symbols
  operand_here : Symbols
  whole : ys ≡ sums_here ++ (products_here ++ (differing_here ++ operand_here))
  sums_is : Sums room l.sums sums_here
  products_is : Products room l.products products_here
  differing_is : Differing room l.differing differing_here
  operand_is : Operand room l.inverts l.operand operand_here

assoc : (xs ys zs : Symbols) → (xs ++ ys) ++ zs ≡ xs ++ (ys ++ zs)
assoc [] ys zs = refl
assoc (x ∷ xs) ys zs = ap (λ l. x ∷ l) (assoc xs ys zs)

level-empty : (room : ℕ) → LevelIs room (waiting None None None false) []
level-empty room = record {
  sums_here = [];
  products_here = [];
  differing_here = [];
  operand_here = [];
  whole = refl;
  sums_is = refl;
  products_is = refl;
  differing_is = refl;
  operand_is = even;
}

-- the expressions up to the last and, the last or, the parenthesis

difference-written : (room : ℕ) (d : Part) (a : Expression) (ys zs : Symbols) → Differing room d ys → Writes room primed a zs → Writes room differences (joined exclusive d a) (ys ++ zs)
difference-written room None a ys zs h k = subst (λ xs. Writes room differences a (xs ++ zs)) (sym h) (one_difference room a zs k)
difference-written room (Some e) a ys zs h k =
    subst (Writes room differences (exclusive e a)) (sym (ap (λ xs. xs ++ zs) h.2 ∙ assoc h.0 (sign kind.Exclusive ∷ []) zs))
    (more_differences room e a h.0 zs h.1 k)

product-written : (room : ℕ) (p : Part) (a : Expression) (ys zs : Symbols) → Products room p ys → Writes room differences a zs → Writes room terms (joined both p a) (ys ++ zs)
product-written room None a ys zs h k = subst (λ xs. Writes room terms a (xs ++ zs)) (sym h) (one_term room a zs k)
product-written room (Some e) a ys zs h k = elim h.2 [
  | inl same ↦ subst (λ xs. Writes room terms (both e a) (xs ++ zs)) (sym same) (neighbours room e a h.0 zs h.1 k)
  | inr more ↦
      subst (Writes room terms (both e a)) (sym (ap (λ xs. xs ++ zs) more ∙ assoc h.0 (sign kind.Conjunction ∷ []) zs))
      (more_terms room e a h.0 zs h.1 k)
]

sum-written : (room : ℕ) (s : Part) (a : Expression) (ys zs : Symbols) → Sums room s ys → Writes room terms a zs → Writes room alternatives (joined either s a) (ys ++ zs)
sum-written room None a ys zs h k = subst (λ xs. Writes room alternatives a (xs ++ zs)) (sym h) (one_alternative room a zs k)
sum-written room (Some e) a ys zs h k =
    subst (Writes room alternatives (either e a)) (sym (ap (λ xs. xs ++ zs) h.2 ∙ assoc h.0 (sign kind.Disjunction ∷ []) zs))
    (more_alternatives room e a h.0 zs h.1 k)

-- a level with an operand
abbrev Stands : ℕ → Level Expression → Expression → Symbols → Type 0
Stands room l a ys = LevelIs room (standing l.sums l.products l.differing a) ys

differences-of : (room : ℕ) (l : Level Expression) (a : Expression) (ys : Symbols) (h : Stands room l a ys) → Writes room differences (difference_of on_expressions l a) (h.differing_here ++ h.operand_here)
differences-of room l a ys h = difference-written room l.differing a h.differing_here h.operand_here h.differing_is h.operand_is

products-of : (room : ℕ) (l : Level Expression) (a : Expression) (ys : Symbols) (h : Stands room l a ys) → Writes room terms (product_of on_expressions l a) (h.products_here ++ (h.differing_here ++ h.operand_here))
products-of room l a ys h =
    product-written room l.products (difference_of on_expressions l a) h.products_here (h.differing_here ++ h.operand_here) h.products_is (differences-of room l a ys h)

sums-of : (room : ℕ) (l : Level Expression) (a : Expression) (ys : Symbols) → Stands room l a ys → Writes room alternatives (sum_of on_expressions l a) ys
sums-of room l a ys h =
    subst (Writes room alternatives (sum_of on_expressions l a)) (sym h.whole)
    (sum-written room l.sums (product_of on_expressions l a) h.sums_here (h.products_here ++ (h.differing_here ++ h.operand_here)) h.sums_is (products-of room l a ys h))

-- a sign behind an operand

behind-exclusive : (room : ℕ) (l : Level Expression) (a : Expression) (ys : Symbols) → Stands room l a ys → LevelIs room (past_difference on_expressions l a) (ys ++ sign kind.Exclusive ∷ [])
behind-exclusive room l a ys h = record {
  sums_here = h.sums_here;
  products_here = h.products_here;
  differing_here = (h.differing_here ++ h.operand_here) ++ sign kind.Exclusive ∷ [];
  operand_here = [];
  whole =
      ap (λ xs. xs ++ sign kind.Exclusive ∷ []) h.whole
      ∙ assoc h.sums_here (h.products_here ++ (h.differing_here ++ h.operand_here)) (sign kind.Exclusive ∷ [])
      ∙ ap (λ xs. h.sums_here ++ xs) (assoc h.products_here (h.differing_here ++ h.operand_here) (sign kind.Exclusive ∷ []))
      ∙ ap (λ xs. h.sums_here ++ (h.products_here ++ xs)) (sym (append-nil ((h.differing_here ++ h.operand_here) ++ sign kind.Exclusive ∷ [])));
  sums_is = h.sums_is;
  products_is = h.products_is;
  differing_is = (h.differing_here ++ h.operand_here, differences-of room l a ys h, refl);
  operand_is = even;
}

behind-conjunction : (room : ℕ) (l : Level Expression) (a : Expression) (ys : Symbols) → Stands room l a ys → LevelIs room (past_product on_expressions l a) (ys ++ sign kind.Conjunction ∷ [])
behind-conjunction room l a ys h =
    let here : Symbols = h.products_here ++ (h.differing_here ++ h.operand_here) in
    record {
      sums_here = h.sums_here;
      products_here = here ++ sign kind.Conjunction ∷ [];
      differing_here = [];
      operand_here = [];
      whole =
          ap (λ xs. xs ++ sign kind.Conjunction ∷ []) h.whole ∙ assoc h.sums_here here (sign kind.Conjunction ∷ [])
          ∙ ap (λ xs. h.sums_here ++ xs) (sym (append-nil (here ++ sign kind.Conjunction ∷ [])));
      sums_is = h.sums_is;
      products_is = (here, products-of room l a ys h, inr refl);
      differing_is = refl;
      operand_is = even;
    }

-- a further operand comes
beside : (room : ℕ) (l : Level Expression) (a : Expression) (ys : Symbols) → Stands room l a ys → LevelIs room (past_product on_expressions l a) ys
beside room l a ys h =
    let here : Symbols = h.products_here ++ (h.differing_here ++ h.operand_here) in
    record {
      sums_here = h.sums_here;
      products_here = here;
      differing_here = [];
      operand_here = [];
      whole = h.whole ∙ ap (λ xs. h.sums_here ++ xs) (sym (append-nil here));
      sums_is = h.sums_is;
      products_is = (here, products-of room l a ys h, inl refl);
      differing_is = refl;
      operand_is = even;
    }

behind-disjunction : (room : ℕ) (l : Level Expression) (a : Expression) (ys : Symbols) → Stands room l a ys → LevelIs room (past_sum on_expressions l a) (ys ++ sign kind.Disjunction ∷ [])
behind-disjunction room l a ys h = record {
  sums_here = ys ++ sign kind.Disjunction ∷ [];
  products_here = [];
  differing_here = [];
  operand_here = [];
  whole = sym (append-nil (ys ++ sign kind.Disjunction ∷ []));
  sums_is = (ys, sums-of room l a ys h, refl);
  products_is = refl;
  differing_is = refl;
  operand_is = even;
}

-- more symbols behind the operand's
longer : (p q r o z : Symbols) → (p ++ (q ++ (r ++ o))) ++ z ≡ p ++ (q ++ (r ++ (o ++ z)))
longer p q r o z =
    assoc p (q ++ (r ++ o)) z ∙ ap (λ xs. p ++ xs) (assoc q (r ++ o) z) ∙ ap (λ xs. p ++ (q ++ xs)) (assoc r o z)

behind-prime : (room : ℕ) (l : Level Expression) (a : Expression) (ys : Symbols) → Stands room l a ys → LevelIs room (priming on_expressions l a) (ys ++ sign kind.Prime ∷ [])
behind-prime room l a ys h = record {
  sums_here = h.sums_here;
  products_here = h.products_here;
  differing_here = h.differing_here;
  operand_here = h.operand_here ++ sign kind.Prime ∷ [];
  whole = ap (λ xs. xs ++ sign kind.Prime ∷ []) h.whole ∙ longer h.sums_here h.products_here h.differing_here h.operand_here (sign kind.Prime ∷ []);
  sums_is = h.sums_is;
  products_is = h.products_is;
  differing_is = h.differing_is;
  operand_is = with_prime room a h.operand_here h.operand_is;
}

-- A level waits: its operand is none.
abbrev Waits : ℕ → Level Expression → Symbols → Type 0
Waits room l ys = LevelIs room (waiting l.sums l.products l.differing l.inverts) ys

behind-inversion : (room : ℕ) (l : Level Expression) (ys : Symbols) → Waits room l ys → LevelIs room (inverting l) (ys ++ sign kind.Inversion ∷ [])
behind-inversion room l ys h = record {
  sums_here = h.sums_here;
  products_here = h.products_here;
  differing_here = h.differing_here;
  operand_here = h.operand_here ++ sign kind.Inversion ∷ [];
  whole = ap (λ xs. xs ++ sign kind.Inversion ∷ []) h.whole ∙ longer h.sums_here h.products_here h.differing_here h.operand_here (sign kind.Inversion ∷ []);
  sums_is = h.sums_is;
  products_is = h.products_is;
  differing_is = h.differing_is;
  operand_is = one-more l.inverts h.operand_here h.operand_is;
}

behind-operand : (room : ℕ) (l : Level Expression) (a : Expression) (ys zs : Symbols) → Waits room l ys → Writes room plain a zs → LevelIs room (with_operand on_expressions l a) (ys ++ zs)
behind-operand room l a ys zs h k = record {
  sums_here = h.sums_here;
  products_here = h.products_here;
  differing_here = h.differing_here;
  operand_here = h.operand_here ++ zs;
  whole = ap (λ xs. xs ++ zs) h.whole ∙ longer h.sums_here h.products_here h.differing_here h.operand_here zs;
  sums_is = h.sums_is;
  products_is = h.products_is;
  differing_is = h.differing_is;
  operand_is = unprimed room (turned_if on_expressions l.inverts a) (h.operand_here ++ zs) (signs-before room l.inverts h.operand_here zs a h.operand_is k);
}

-- a level by its operand: what `standing` and `waiting` leave as it is
as-standing : (room : ℕ) (l : Level Expression) (a : Expression) (ys : Symbols) → l.operand ≡ Some a → LevelIs room l ys → Stands room l a ys
as-standing room l a ys e h = record {
  sums_here = h.sums_here;
  products_here = h.products_here;
  differing_here = h.differing_here;
  operand_here = h.operand_here;
  whole = h.whole;
  sums_is = h.sums_is;
  products_is = h.products_is;
  differing_is = h.differing_is;
  operand_is = subst (λ o. Operand room l.inverts o h.operand_here) e h.operand_is;
}

as-waiting : (room : ℕ) (l : Level Expression) (ys : Symbols) → l.operand ≡ None → LevelIs room l ys → Waits room l ys
as-waiting room l ys e h = record {
  sums_here = h.sums_here;
  products_here = h.products_here;
  differing_here = h.differing_here;
  operand_here = h.operand_here;
  whole = h.whole;
  sums_is = h.sums_is;
  products_is = h.products_is;
  differing_is = h.differing_is;
  operand_is = subst (λ o. Operand room l.inverts o h.operand_here) e h.operand_is;
}

-- what is ready for an operand
abbrev Readied : ℕ → Level Expression → Symbols → Type 0
Readied room l ys = Waits room l ys × (l.operand ≡ None)

readied : (room : ℕ) (l : Level Expression) (ys : Symbols) → LevelIs room l ys → Readied room (ready on_expressions l) ys
readied room l ys h = cases l.operand refl
  where
    cases : (o : Part) → l.operand ≡ o → Readied room (ready on_expressions l) ys
    cases None e = subst (λ m. Readied room m ys) (sym (ap (λ o. ready_by on_expressions l o) e)) (as-waiting room l ys e h, e)
    cases (Some a) e = subst (λ m. Readied room m ys) (sym (ap (λ o. ready_by on_expressions l o) e)) (beside room l a ys (as-standing room l a ys e h), refl)

-- the levels around, from the inside out
abbrev Around : List (Level Expression) → Symbols → Type 0
Around [] ys = ys ≡ []
Around (o ∷ os) ys = (before : Symbols) × (here : Symbols) × (ys ≡ before ++ (here ++ sign kind.Opening ∷ [])) × Around os before × Waits (64 - length os) o here
    × (length os < 64)

-- the symbols that all was read of
abbrev StateIs : State Expression → Symbols → Type 0
StateIs s ys = (before : Symbols) × (here : Symbols) × (ys ≡ before ++ here) × Around s.outside before × LevelIs (64 - length s.outside) s.level here

-- what follows a symbol
abbrev Follows : Option (State Expression) → Symbols → Type 0
Follows None ys = Unit {0}
Follows (Some s) ys = StateIs s ys

abbrev FollowsLevel : ℕ → Option (Level Expression) → Symbols → Type 0
FollowsLevel room None ys = Unit {0}
FollowsLevel room (Some l) ys = LevelIs room l ys

word-follows : (w : List ℕ) (s : State Expression) (ys : Symbols) → StateIs s ys → StateIs (among s.outside (given on_expressions s.level (of_word w))) (ys ++ word w ∷ [])
word-follows w s ys h =
    let room : ℕ = 64 - length s.outside in
    let l : Level Expression = ready on_expressions s.level in (
      h.0,
      h.1 ++ word w ∷ [],
      ap (λ xs. xs ++ word w ∷ []) h.2 ∙ assoc h.0 h.1 (word w ∷ []),
      h.3,
      behind-operand room l (of_word w) h.1 (word w ∷ []) (readied room s.level h.1 h.4).0 (a_word room w),
    )

-- a sign that needs an operand
needing : (room : ℕ) (l : Level Expression) (ys : Symbols) (k : Sign) (f : Expression → Level Expression) → ((a : Expression) → Stands room l a ys → LevelIs room (f a) (ys ++ sign k ∷ [])) →
    LevelIs room l ys → FollowsLevel room (option_map f l.operand) (ys ++ sign k ∷ [])
needing room l ys k f g h = cases l.operand refl
  where
    cases : (o : Part) → l.operand ≡ o → FollowsLevel room (option_map f o) (ys ++ sign k ∷ [])
    cases None e = tt
    cases (Some a) e = g a (as-standing room l a ys e h)

level-follows : (room : ℕ) (k : Sign) (l : Level Expression) (ys : Symbols) → LevelIs room l ys → FollowsLevel room (level_step on_expressions k l) (ys ++ sign k ∷ [])
level-follows room kind.Opening l ys h = tt
level-follows room kind.Closing l ys h = tt
level-follows room kind.Inversion l ys h = behind-inversion room (ready on_expressions l) ys (readied room l ys h).0
level-follows room kind.Prime l ys h = needing room l ys kind.Prime (priming on_expressions l) (λ a. behind-prime room l a ys) h
level-follows room kind.Exclusive l ys h = needing room l ys kind.Exclusive (past_difference on_expressions l) (λ a. behind-exclusive room l a ys) h
level-follows room kind.Conjunction l ys h = needing room l ys kind.Conjunction (past_product on_expressions l) (λ a. behind-conjunction room l a ys) h
level-follows room kind.Disjunction l ys h = needing room l ys kind.Disjunction (past_sum on_expressions l) (λ a. behind-disjunction room l a ys) h
level-follows room kind.Other l ys h = tt

plain-follows : (k : Sign) (s : State Expression) (ys : Symbols) → StateIs s ys → Follows (option_map (among s.outside) (level_step on_expressions k s.level)) (ys ++ sign k ∷ [])
plain-follows k s ys h =
    cases (level_step on_expressions k s.level) (level-follows (64 - length s.outside) k s.level h.1 h.4)
  where
    cases : (o : Option (Level Expression)) → FollowsLevel (64 - length s.outside) o (h.1 ++ sign k ∷ []) → Follows (option_map (among s.outside) o) (ys ++ sign k ∷ [])
    cases None m = tt
    cases (Some l) m = (h.0, h.1 ++ sign k ∷ [], ap (λ xs. xs ++ sign k ∷ []) h.2 ∙ assoc h.0 h.1 (sign k ∷ []), h.3, m)

opening-follows : (s : State Expression) (ys : Symbols) → StateIs s ys → Follows (opened on_expressions s) (ys ++ sign kind.Opening ∷ [])
opening-follows s ys h = cases (nat_lt (length s.outside) 64) refl
  where
    cases : (b : Bool) → nat_lt (length s.outside) 64 ≡ b →
        Follows (if b then Some (among (ready on_expressions s.level ∷ s.outside) (waiting None None None false)) else None) (ys ++ sign kind.Opening ∷ [])
    cases true e =
        let few : length s.outside < 64 = grind (arith, nat_tests) in (
          ys ++ sign kind.Opening ∷ [],
          [],
          sym (append-nil (ys ++ sign kind.Opening ∷ [])),
          (h.0, h.1, ap (λ xs. xs ++ sign kind.Opening ∷ []) h.2 ∙ assoc h.0 h.1 (sign kind.Opening ∷ []), h.3, (readied (64 - length s.outside) s.level h.1 h.4).0, few),
          level-empty (64 - length (ready on_expressions s.level ∷ s.outside)),
        )
    cases false e = tt

closed-in : (os : List (Level Expression)) (l : Level Expression) (a : Expression) (ys before here : Symbols) → ys ≡ before ++ here → Around os before → Stands (64 - length os) l a here →
    Follows (passed_out on_expressions (sum_of on_expressions l a) os) (ys ++ sign kind.Closing ∷ [])
closed-in [] l a ys before here e around h = tt
closed-in (o ∷ os) l a ys before here e around h =
    let room : ℕ = 64 - length (o ∷ os) in
    let more : suc room ≡ 64 - length os = (let few = around.5 in omega (arith, few)) in
    let inside : Writes (suc room) plain (sum_of on_expressions l a) (sign kind.Opening ∷ here ++ sign kind.Closing ∷ []) = in_parentheses room (sum_of on_expressions l a) here (sums-of room l a here h) in
    let written : Writes (64 - length os) plain (sum_of on_expressions l a) (sign kind.Opening ∷ here ++ sign kind.Closing ∷ []) =
    subst (λ r. Writes r plain (sum_of on_expressions l a) (sign kind.Opening ∷ here ++ sign kind.Closing ∷ [])) more inside in (
      around.0,
      around.1 ++ (sign kind.Opening ∷ here ++ sign kind.Closing ∷ []),
      ap (λ xs. xs ++ sign kind.Closing ∷ []) (e ∙ ap (λ xs. xs ++ here) around.2) ∙ regroup around.0 around.1 here,
      around.3,
      behind-operand (64 - length os) o (sum_of on_expressions l a) around.1 (sign kind.Opening ∷ here ++ sign kind.Closing ∷ []) around.4 written,
    )
  where
    regroup : (p q r : Symbols) → ((p ++ (q ++ sign kind.Opening ∷ [])) ++ r) ++ sign kind.Closing ∷ [] ≡ p ++ (q ++ (sign kind.Opening ∷ r ++ sign kind.Closing ∷ []))
    regroup p q r =
        assoc (p ++ (q ++ sign kind.Opening ∷ [])) r (sign kind.Closing ∷ [])
        ∙ assoc p (q ++ sign kind.Opening ∷ []) (r ++ sign kind.Closing ∷ [])
        ∙ ap (λ xs. p ++ xs) (assoc q (sign kind.Opening ∷ []) (r ++ sign kind.Closing ∷ []))

closing-follows : (s : State Expression) (ys : Symbols) → StateIs s ys → Follows (closed on_expressions s) (ys ++ sign kind.Closing ∷ [])
closing-follows s ys h = cases s.level.operand refl
  where
    cases : (o : Part) → s.level.operand ≡ o → Follows (option_and_then (λ a. passed_out on_expressions (sum_of on_expressions s.level a) s.outside) o) (ys ++ sign kind.Closing ∷ [])
    cases None e = tt
    cases (Some a) e = closed-in s.outside s.level a ys h.0 h.1 h.2 h.3 (as-standing (64 - length s.outside) s.level a h.1 e h.4)

sign-follows : (k : Sign) (s : State Expression) (ys : Symbols) → StateIs s ys → Follows (sign_step on_expressions k s) (ys ++ sign k ∷ [])
sign-follows kind.Opening s ys h = opening-follows s ys h
sign-follows kind.Closing s ys h = closing-follows s ys h
sign-follows kind.Inversion s ys h = plain-follows kind.Inversion s ys h
sign-follows kind.Prime s ys h = plain-follows kind.Prime s ys h
sign-follows kind.Exclusive s ys h = plain-follows kind.Exclusive s ys h
sign-follows kind.Conjunction s ys h = plain-follows kind.Conjunction s ys h
sign-follows kind.Disjunction s ys h = plain-follows kind.Disjunction s ys h
sign-follows kind.Other s ys h = plain-follows kind.Other s ys h

step-follows : (y : Symbol) (s : State Expression) (ys : Symbols) → StateIs s ys → Follows (step on_expressions of_word y s) (ys ++ y ∷ [])
step-follows (word w) s ys h = word-follows w s ys h
step-follows (sign k) s ys h = sign-follows k s ys h

-- in the end the level stands alone
ends : (s : State Expression) (ys : Symbols) (e : Expression) → StateIs s ys → finished on_expressions s.level s.outside ≡ Some e → Writes 64 alternatives e ys
ends s ys e h f = by_outside s.outside h.3 h.4 f
  where
    by_operand : (o : Part) → s.level.operand ≡ o → h.0 ≡ [] → LevelIs 64 s.level h.1 → option_map (sum_of on_expressions s.level) o ≡ Some e → Writes 64 alternatives e ys
    by_operand None q around k g = cc
    by_operand (Some a) q around k g =
        let whole : ys ≡ h.1 = h.2 ∙ ap (λ xs. xs ++ h.1) around in
        let sum : sum_of on_expressions s.level a ≡ e = cc in
        subst (λ x. Writes 64 alternatives x ys) sum (subst (Writes 64 alternatives (sum_of on_expressions s.level a)) (sym whole) (sums-of 64 s.level a h.1 (as-standing 64 s.level a h.1 q k)))

    by_outside : (os : List (Level Expression)) → Around os h.0 → LevelIs (64 - length os) s.level h.1 → finished on_expressions s.level os ≡ Some e → Writes 64 alternatives e ys
    by_outside [] around k g = by_operand s.level.operand refl around k g
    by_outside (l ∷ os) around k g = cc

-- what is read of some symbols, behind others that led to a state
follows : (zs : Symbols) (s : State Expression) (ys : Symbols) (e : Expression) → StateIs s ys → read on_expressions of_word zs s ≡ Some e → Writes 64 alternatives e (ys ++ zs)
follows [] s ys e h f = subst (Writes 64 alternatives e) (sym (append-nil ys)) (ends s ys e h f)
follows (z ∷ zs) s ys e h f = cases (λ t. follows zs t (ys ++ z ∷ []) e) (step on_expressions of_word z s) (step-follows z s ys h) f
  where
    cases : ((t : State Expression) → StateIs t (ys ++ z ∷ []) → read on_expressions of_word zs t ≡ Some e → Writes 64 alternatives e ((ys ++ z ∷ []) ++ zs)) →
        (o : Option (State Expression)) → Follows o (ys ++ z ∷ []) → option_and_then (read on_expressions of_word zs) o ≡ Some e → Writes 64 alternatives e (ys ++ z ∷ zs)
    cases later None k g = cc
    cases later (Some t) k g = subst (Writes 64 alternatives e) (assoc ys (z ∷ []) zs) (later t k g)

pub written : (text : List ℕ) (e : Expression) → expression_of text ≡ Some e → IsExpressionOf text e
written text e f = follows (symbols_of text) start [] e ([], [], refl, refl, level-empty 64) f
