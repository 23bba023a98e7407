-- What is read for a name is the sense of the name in the expression that is read.
use Rattle.std.proofs.Common.{◌≡◌, ℕ, ◌<◌, Bool, true, false, if◌then◌else◌, List, [], ◌∷◌, map, length, nat_lt, Option, Some, None, option_map, option_and_then, refl, sym, ap, ◌∙◌}
use Rattle.std.proofs.lemmas.List.{length-map}
use Rattle.mintc_senses_expressions.specs.declared.signs.Sign.{Sign}
use Rattle.mintc_senses_expressions.specs.declared.signs.Sign.TheVariants as kind
use Rattle.mintc_senses_expressions.specs.declared.transitions.Transitions.{Transitions}
use Rattle.mintc_senses_expressions.specs.Expressions.{Expression, sense}
use Rattle.mintc_senses_expressions.specs.Grammar.{of_word}
use Rattle.mintc_senses_expressions.specs.Symbols.{Symbol, word, sign, symbols_of}
use Rattle.mintc_senses_expressions.specs.Reading.{Level, State, on_expressions, on_senses, joined, difference_of, product_of, sum_of, past_difference, past_product, past_sum, ready_by, ready, turned_if, with_operand, given, inverting, priming, waiting, level_step, among, start, opened, passed_out, closed, sign_step, step, finished, read, expression_of, some_of, function_sense}
use Rattle.mintc_senses_expressions.specs.Seen.{in_word}

-- a level of expressions as one of senses
abbrev level_for : List ℕ → Level Expression → Level Transitions
level_for n l = record {
  sums = option_map (sense n) l.sums;
  products = option_map (sense n) l.products;
  differing = option_map (sense n) l.differing;
  inverts = l.inverts;
  operand = option_map (sense n) l.operand;
}

abbrev state_for : List ℕ → State Expression → State Transitions
state_for n s = among (map (level_for n) s.outside) (level_for n s.level)

difference-for : (n : List ℕ) (l : Level Expression) (a : Expression) → difference_of on_senses (level_for n l) (sense n a) ≡ sense n (difference_of on_expressions l a)
difference-for n l a = cases l.differing
  where
    cases : (d : Option Expression) → joined on_senses.differ (option_map (sense n) d) (sense n a) ≡ sense n (joined on_expressions.differ d a)
    cases None = refl
    cases (Some b) = refl

product-for : (n : List ℕ) (l : Level Expression) (a : Expression) → product_of on_senses (level_for n l) (sense n a) ≡ sense n (product_of on_expressions l a)
product-for n l a =
    ap (λ b. joined on_senses.meet (option_map (sense n) l.products) b) (difference-for n l a) ∙ cases l.products (difference_of on_expressions l a)
  where
    cases : (d : Option Expression) (b : Expression) → joined on_senses.meet (option_map (sense n) d) (sense n b) ≡ sense n (joined on_expressions.meet d b)
    cases None b = refl
    cases (Some c) b = refl

sum-for : (n : List ℕ) (l : Level Expression) (a : Expression) → sum_of on_senses (level_for n l) (sense n a) ≡ sense n (sum_of on_expressions l a)
sum-for n l a =
    ap (λ b. joined on_senses.join (option_map (sense n) l.sums) b) (product-for n l a) ∙ cases l.sums (product_of on_expressions l a)
  where
    cases : (d : Option Expression) (b : Expression) → joined on_senses.join (option_map (sense n) d) (sense n b) ≡ sense n (joined on_expressions.join d b)
    cases None b = refl
    cases (Some c) b = refl

past_difference-for : (n : List ℕ) (l : Level Expression) (a : Expression) → past_difference on_senses (level_for n l) (sense n a) ≡ level_for n (past_difference on_expressions l a)
past_difference-for n l a = ap (λ b. waiting (option_map (sense n) l.sums) (option_map (sense n) l.products) (Some b) false) (difference-for n l a)

past_product-for : (n : List ℕ) (l : Level Expression) (a : Expression) → past_product on_senses (level_for n l) (sense n a) ≡ level_for n (past_product on_expressions l a)
past_product-for n l a = ap (λ b. waiting (option_map (sense n) l.sums) (Some b) None false) (product-for n l a)

past_sum-for : (n : List ℕ) (l : Level Expression) (a : Expression) → past_sum on_senses (level_for n l) (sense n a) ≡ level_for n (past_sum on_expressions l a)
past_sum-for n l a = ap (λ b. waiting (Some b) None None false) (sum-for n l a)

ready-for : (n : List ℕ) (l : Level Expression) → ready on_senses (level_for n l) ≡ level_for n (ready on_expressions l)
ready-for n l = cases l.operand
  where
    cases : (o : Option Expression) → ready_by on_senses (level_for n l) (option_map (sense n) o) ≡ level_for n (ready_by on_expressions l o)
    cases None = refl
    cases (Some a) = past_product-for n l a

turned-for : (n : List ℕ) (b : Bool) (a : Expression) → turned_if on_senses b (sense n a) ≡ sense n (turned_if on_expressions b a)
turned-for n true a = refl
turned-for n false a = refl

operand-for : (n : List ℕ) (l : Level Expression) (a : Expression) → with_operand on_senses (level_for n l) (sense n a) ≡ level_for n (with_operand on_expressions l a)
operand-for n l a =
    ap (λ (b : Transitions). let m : Level Transitions = record { sums = option_map (sense n) l.sums; products = option_map (sense n) l.products; differing = option_map (sense n) l.differing; inverts = false; operand = Some b } in m)
    (turned-for n l.inverts a)

given-for : (n : List ℕ) (l : Level Expression) (a : Expression) → given on_senses (level_for n l) (sense n a) ≡ level_for n (given on_expressions l a)
given-for n l a = ap (λ m. with_operand on_senses m (sense n a)) (ready-for n l) ∙ operand-for n (ready on_expressions l) a

-- what follows an operand, if there is one
behind-for : (n : List ℕ) (f : Expression → Level Expression) (g : Transitions → Level Transitions) → ((a : Expression) → g (sense n a) ≡ level_for n (f a)) → (o : Option Expression) →
    option_map g (option_map (sense n) o) ≡ option_map (level_for n) (option_map f o)
behind-for n f g h None = refl
behind-for n f g h (Some a) = ap (λ m. Some m) (h a)

level_step-for : (n : List ℕ) (k : Sign) (l : Level Expression) → level_step on_senses k (level_for n l) ≡ option_map (level_for n) (level_step on_expressions k l)
level_step-for n kind.Opening l = refl
level_step-for n kind.Closing l = refl
level_step-for n kind.Inversion l = ap (λ m. Some (inverting m)) (ready-for n l)
level_step-for n kind.Prime l = behind-for n (priming on_expressions l) (priming on_senses (level_for n l)) (λ a. refl) l.operand
level_step-for n kind.Exclusive l = behind-for n (past_difference on_expressions l) (past_difference on_senses (level_for n l)) (past_difference-for n l) l.operand
level_step-for n kind.Conjunction l = behind-for n (past_product on_expressions l) (past_product on_senses (level_for n l)) (past_product-for n l) l.operand
level_step-for n kind.Disjunction l = behind-for n (past_sum on_expressions l) (past_sum on_senses (level_for n l)) (past_sum-for n l) l.operand
level_step-for n kind.Other l = refl

length-for : (n : List ℕ) (os : List (Level Expression)) → length (map (level_for n) os) ≡ length os
length-for n os = length-map os (level_for n)

opened-for : (n : List ℕ) (s : State Expression) → opened on_senses (state_for n s) ≡ option_map (state_for n) (opened on_expressions s)
opened-for n s =
    ap (λ k. if nat_lt k 64 then Some (among (ready on_senses (level_for n s.level) ∷ map (level_for n) s.outside) (waiting None None None false)) else None) (length-for n s.outside)
    ∙ cases (nat_lt (length s.outside) 64)
  where
    cases : (b : Bool) → (if b then Some (among (ready on_senses (level_for n s.level) ∷ map (level_for n) s.outside) (waiting None None None false)) else None)
        ≡ option_map (state_for n) (if b then Some (among (ready on_expressions s.level ∷ s.outside) (waiting None None None false)) else None)
    cases true = ap (λ m. Some (among (m ∷ map (level_for n) s.outside) (waiting None None None false))) (ready-for n s.level)
    cases false = refl

passed-for : (n : List ℕ) (a : Expression) (os : List (Level Expression)) → passed_out on_senses (sense n a) (map (level_for n) os) ≡ option_map (state_for n) (passed_out on_expressions a os)
passed-for n a [] = refl
passed-for n a (o ∷ os) = ap (λ m. Some (among (map (level_for n) os) m)) (operand-for n o a)

closed-for : (n : List ℕ) (s : State Expression) → closed on_senses (state_for n s) ≡ option_map (state_for n) (closed on_expressions s)
closed-for n s = cases s.level.operand
  where
    cases : (o : Option Expression) → option_and_then (λ a. passed_out on_senses (sum_of on_senses (level_for n s.level) a) (map (level_for n) s.outside)) (option_map (sense n) o)
        ≡ option_map (state_for n) (option_and_then (λ a. passed_out on_expressions (sum_of on_expressions s.level a) s.outside) o)
    cases None = refl
    cases (Some a) = ap (λ t. passed_out on_senses t (map (level_for n) s.outside)) (sum-for n s.level a) ∙ passed-for n (sum_of on_expressions s.level a) s.outside

plain-for : (n : List ℕ) (s : State Expression) (k : Sign) → option_map (among (map (level_for n) s.outside)) (level_step on_senses k (level_for n s.level)) ≡ option_map (state_for n) (option_map (among s.outside) (level_step on_expressions k s.level))
plain-for n s k = ap (option_map (among (map (level_for n) s.outside))) (level_step-for n k s.level) ∙ cases (level_step on_expressions k s.level)
  where
    cases : (o : Option (Level Expression)) → option_map (among (map (level_for n) s.outside)) (option_map (level_for n) o) ≡ option_map (state_for n) (option_map (among s.outside) o)
    cases None = refl
    cases (Some l) = refl

sign-for : (n : List ℕ) (k : Sign) (s : State Expression) → sign_step on_senses k (state_for n s) ≡ option_map (state_for n) (sign_step on_expressions k s)
sign-for n kind.Opening s = opened-for n s
sign-for n kind.Closing s = closed-for n s
sign-for n kind.Inversion s = plain-for n s kind.Inversion
sign-for n kind.Prime s = plain-for n s kind.Prime
sign-for n kind.Exclusive s = plain-for n s kind.Exclusive
sign-for n kind.Conjunction s = plain-for n s kind.Conjunction
sign-for n kind.Disjunction s = plain-for n s kind.Disjunction
sign-for n kind.Other s = plain-for n s kind.Other

step-for : (n : List ℕ) (y : Symbol) (s : State Expression) → step on_senses (in_word n) y (state_for n s) ≡ option_map (state_for n) (step on_expressions of_word y s)
step-for n (word w) s = ap (λ m. Some (among (map (level_for n) s.outside) m)) (given-for n s.level (of_word w))
step-for n (sign k) s = sign-for n k s

finished-for : (n : List ℕ) (l : Level Expression) (os : List (Level Expression)) → finished on_senses (level_for n l) (map (level_for n) os) ≡ option_map (sense n) (finished on_expressions l os)
finished-for n l [] = cases l.operand
  where
    cases : (o : Option Expression) → option_map (sum_of on_senses (level_for n l)) (option_map (sense n) o) ≡ option_map (sense n) (option_map (sum_of on_expressions l) o)
    cases None = refl
    cases (Some a) = ap (λ t. Some t) (sum-for n l a)
finished-for n l (o ∷ os) = refl

read-for : (n : List ℕ) (ys : List Symbol) (s : State Expression) → read on_senses (in_word n) ys (state_for n s) ≡ option_map (sense n) (read on_expressions of_word ys s)
read-for n [] s = finished-for n s.level s.outside
read-for n (y ∷ ys) s =
    ap (option_and_then (read on_senses (in_word n) ys)) (step-for n y s) ∙ cases (λ t. read-for n ys t) (step on_expressions of_word y s)
  where
    cases : ((t : State Expression) → read on_senses (in_word n) ys (state_for n t) ≡ option_map (sense n) (read on_expressions of_word ys t)) →
        (o : Option (State Expression)) → option_and_then (read on_senses (in_word n) ys) (option_map (state_for n) o) ≡ option_map (sense n) (option_and_then (read on_expressions of_word ys) o)
    cases later None = refl
    cases later (Some t) = later t

-- what is read for a name of a text
pub sense_read : (n text : List ℕ) → read on_senses (in_word n) (symbols_of text) start ≡ option_map (sense n) (expression_of text)
sense_read n text = read-for n (symbols_of text) start

-- and of that what is some sense
pub some-sense : (n text : List ℕ) → option_and_then some_of (read on_senses (in_word n) (symbols_of text) start) ≡ function_sense text n
some-sense n text = ap (option_and_then some_of) (sense_read n text) ∙ cases (expression_of text)
  where
    cases : (o : Option Expression) → option_and_then some_of (option_map (sense n) o) ≡ option_and_then (λ e. some_of (sense n e)) o
    cases None = refl
    cases (Some e) = refl
