-- The expression of a text, read symbol by symbol. What is read may be the expression itself, or what it comes to by
-- some operations.
use Rattle.std.specs.Prelude.{ℕ, Bool, true, false, not, if◌then◌else◌, List, [], ◌∷◌, length, nat_lt, Option, Some}
use Rattle.std.specs.Prelude.{None, option_map, option_and_then}
use Rattle.mintc_senses_expressions.specs.declared.signs.Sign.{Sign}
use Rattle.mintc_senses_expressions.specs.declared.signs.Sign.TheVariants as kind
use Rattle.mintc_senses_expressions.specs.declared.transitions.Transitions.{Transitions}
use Rattle.mintc_senses_expressions.specs.Transitions.{turned, together, all_if_some, has_some}
use Rattle.mintc_senses_expressions.specs.Expressions.{Expression, inverse, both, either, exclusive, sense}
use Rattle.mintc_senses_expressions.specs.Symbols.{Symbol, word, sign, symbols_of}
use Rattle.mintc_senses_expressions.specs.Grammar.{of_word}

-- What is done at `!` and `'`, at and, at or, at exclusive or.
pub record Operations (A : Type 0) : Type 0 where
  pub turn : A → A
  pub meet : A → A → A
  pub join : A → A → A
  pub differ : A → A → A

-- the expressions themselves
abbrev pub on_expressions : Operations Expression
on_expressions = record { turn = inverse; meet = both; join = either; differ = exclusive }

-- the senses of a name in them
abbrev pub on_senses : Operations Transitions
on_senses = record {
  turn = turned;
  meet = together;
  join = together;
  differ = λ s t. all_if_some (together s t);
}

-- What stands so far between two parentheses: what stands before the last or, behind it before the last and, behind
-- that before the last exclusive or; whether an odd number of `!` follow; and the operand, if there is one already.
pub record Level (A : Type 0) : Type 0 where
  pub sums : Option A
  pub products : Option A
  pub differing : Option A
  pub inverts : Bool
  pub operand : Option A

-- before an operand
abbrev pub waiting : {A : Type 0} → Option A → Option A → Option A → Bool → Level A
waiting s p d b = record { sums = s; products = p; differing = d; inverts = b; operand = None }

-- behind an operand
abbrev pub standing : {A : Type 0} → Option A → Option A → Option A → A → Level A
standing s p d a = record { sums = s; products = p; differing = d; inverts = false; operand = Some a }

-- one joined with what stands before it, if anything does
abbrev pub joined : {A : Type 0} → (A → A → A) → Option A → A → A
joined f None b = b
joined f (Some a) b = f a b

-- what an operand is with all before it up to the last and
abbrev pub difference_of : {A : Type 0} → Operations A → Level A → A → A
difference_of by l a = joined by.differ l.differing a

-- up to the last or
abbrev pub product_of : {A : Type 0} → Operations A → Level A → A → A
product_of by l a = joined by.meet l.products (difference_of by l a)

-- up to the parenthesis
abbrev pub sum_of : {A : Type 0} → Operations A → Level A → A → A
sum_of by l a = joined by.join l.sums (product_of by l a)

-- behind an exclusive or
abbrev pub past_difference : {A : Type 0} → Operations A → Level A → A → Level A
past_difference by l a = waiting l.sums l.products (Some (difference_of by l a)) false

-- behind an and
abbrev pub past_product : {A : Type 0} → Operations A → Level A → A → Level A
past_product by l a = waiting l.sums (Some (product_of by l a)) None false

-- behind an or
abbrev pub past_sum : {A : Type 0} → Operations A → Level A → A → Level A
past_sum by l a = waiting (Some (sum_of by l a)) None None false

-- before a further operand: where one stands already, there is an and between them
abbrev pub ready_by : {A : Type 0} → Operations A → Level A → Option A → Level A
ready_by by l None = l
ready_by by l (Some a) = past_product by l a

-- the same of the level's own operand
abbrev pub ready : {A : Type 0} → Operations A → Level A → Level A
ready by l = ready_by by l l.operand

-- inverted, or as it is
abbrev pub turned_if : {A : Type 0} → Operations A → Bool → A → A
turned_if by b a = if b then by.turn a else a

-- with an operand
abbrev pub with_operand : {A : Type 0} → Operations A → Level A → A → Level A
with_operand by l a = standing l.sums l.products l.differing (turned_if by l.inverts a)

-- with an operand behind what may be one
abbrev pub given : {A : Type 0} → Operations A → Level A → A → Level A
given by l a = with_operand by (ready by l) a

-- with one more `!`
abbrev pub inverting : {A : Type 0} → Level A → Level A
inverting l = waiting l.sums l.products l.differing (not l.inverts)

-- with a `'`
abbrev pub priming : {A : Type 0} → Operations A → Level A → A → Level A
priming by l a = standing l.sums l.products l.differing (by.turn a)

-- behind a sign that is no parenthesis, where one may stand there
abbrev pub level_step : {A : Type 0} → Operations A → Sign → Level A → Option (Level A)
level_step by kind.Opening l = None
level_step by kind.Closing l = None
level_step by kind.Inversion l = Some (inverting (ready by l))
level_step by kind.Prime l = option_map (priming by l) l.operand
level_step by kind.Exclusive l = option_map (past_difference by l) l.operand
level_step by kind.Conjunction l = option_map (past_product by l) l.operand
level_step by kind.Disjunction l = option_map (past_sum by l) l.operand
level_step by kind.Other l = None

-- The level that is read, and those around it from the inside out.
pub record State (A : Type 0) : Type 0 where
  pub level : Level A
  pub outside : List (Level A)

-- a level among others
abbrev pub among : {A : Type 0} → List (Level A) → Level A → State A
among os l = record { level = l; outside = os }

-- before any symbol
abbrev pub start : {A : Type 0} → State A
start = among [] (waiting None None None false)

-- behind a parenthesis that opens, of which 64 may be open
abbrev pub opened : {A : Type 0} → Operations A → State A → Option (State A)
opened by s =
    if nat_lt (length s.outside) 64 then Some (among (ready by s.level ∷ s.outside) (waiting None None None false))
    else None

-- an operand for the level outside
abbrev pub passed_out : {A : Type 0} → Operations A → A → List (Level A) → Option (State A)
passed_out by a [] = None
passed_out by a (o ∷ os) = Some (among os (with_operand by o a))

-- behind a parenthesis that closes
abbrev pub closed : {A : Type 0} → Operations A → State A → Option (State A)
closed by s = option_and_then (λ a. passed_out by (sum_of by s.level a) s.outside) s.level.operand

-- behind a sign
abbrev pub sign_step : {A : Type 0} → Operations A → Sign → State A → Option (State A)
sign_step by kind.Opening s = opened by s
sign_step by kind.Closing s = closed by s
sign_step by k s = option_map (among s.outside) (level_step by k s.level)

-- behind a symbol
abbrev pub step : {A : Type 0} → Operations A → (List ℕ → A) → Symbol → State A → Option (State A)
step by words (word w) s = Some (among s.outside (given by s.level (words w)))
step by words (sign k) s = sign_step by k s

-- what was read in the end
abbrev pub finished : {A : Type 0} → Operations A → Level A → List (Level A) → Option A
finished by l [] = option_map (sum_of by l) l.operand
finished by l (o ∷ os) = None

-- what all symbols come to
abbrev pub read : {A : Type 0} → Operations A → (List ℕ → A) → List Symbol → State A → Option A
read by words [] s = finished by s.level s.outside
read by words (y ∷ ys) s = option_and_then (read by words ys) (step by words y s)

-- the expression of a text, if it is one
abbrev pub expression_of : List ℕ → Option Expression
expression_of text = read on_expressions of_word (symbols_of text) start

-- transitions, if there is one
abbrev pub some_of : Transitions → Option Transitions
some_of t = if has_some t then Some t else None

-- the sense of a name in the expression of a text, if it is one that has the name
abbrev pub function_sense : List ℕ → List ℕ → Option Transitions
function_sense text n = option_and_then (λ e. some_of (sense n e)) (expression_of text)
