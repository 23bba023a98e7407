-- What holds of senses.
use Rattle.std.proofs.Common.{◌≡◌, ℕ, ◌+◌, Bool, true, false, if◌then◌else◌, List, Option, Some, None, IsSome, option_map, option_and_then, unwrap_or, Ok, Err, bytes_eq, codes, refl, sym, ap, subst, ◌∙◌}
use Rattle.std.specs.Option.{option_or}
use Rattle.mintc_senses_expressions.specs.declared.transitions.Transitions.{Transitions}
use Rattle.mintc_senses_expressions.specs.Transitions.{has_some, all_transitions}
use Rattle.mintc_senses_expressions.specs.Expressions.{Expression, sense, CoverChanges}
use Rattle.mintc_senses_expressions.specs.Grammar.{IsExpressionOf}
use Rattle.mintc_senses_expressions.specs.Reading.{some_of, expression_of, function_sense}
use Rattle.mintc_senses_expressions.specs.Laws.{AreReadBack, SensesCover}
use Rattle.mintc_cells.specs.declared.cell.Cell.{Cell}
use Rattle.mintc_cells.specs.declared.cell.Cell.TheVariants.{Gate, Latch, Flop, Clock}
use Rattle.mintc_liberty_tokens.specs.Tokens.{Token, names_in, tokens_of}
use Rattle.mintc_liberty_tokens.specs.Statements.{Statements, none, front, count}
use Rattle.mintc_liberty_cell.specs.Meaning.{Group, groups, last_value}
use Rattle.mintc_liberty.specs.Texts.{behind_head, is_end, within, library_of}
use Rattle.mintc_senses.specs.Senses.{function_in, by_function, by_timing, gate_sense, literal_sense, two_of, state_sense, through, keeper_sense, stored_sense, first_named, pin_inside, sense_in, library_inside}

-- The library

pub of_library : (text : List ℕ) (is : Statements) → library_of text ≡ Ok is → library_inside text ≡ is
of_library text is e = by_head (behind_head (tokens_of text)) e
  where
    by_end : (b : Bool) (ts : List Token) → (if b then Ok (front 63 ts).statements else Err (count (front 63 ts).statements + 1)) ≡ Ok is → (front 63 ts).statements ≡ is
    by_end true ts f = cc
    by_end false ts f = cc

    by_head : (o : Option (List Token)) → within o ≡ Ok is → unwrap_or (option_map (λ ts. (front 63 ts).statements) o) none ≡ is
    by_head None f = cc
    by_head (Some ts) f = by_end (is_end (front 63 ts).after) ts f

-- Gates

some-covers : (inner : Statements) (a : List ℕ) (e : Expression) (b : Bool) → CoverChanges a e (sense a e) → IsSome (if b then Some (sense a e) else None) →
    CoverChanges a e (unwrap_or (option_or (if b then Some (sense a e) else None) (some_of (by_timing a (groups inner)))) all_transitions)
some-covers inner a e true h s = h
some-covers inner a e false h s = absurd (cc)

pub gate-covers : AreReadBack → SensesCover → (inner : Statements) (a text : List ℕ) (e : Expression) → function_in inner ≡ Some text → IsExpressionOf text e → IsSome (function_sense text a) → CoverChanges a e (gate_sense inner a)
gate-covers reads covers inner a text e f w s =
    let read : function_sense text a ≡ some_of (sense a e) = ap (option_and_then (λ (x : Expression). some_of (sense a x))) (reads text e w) in
    let said : by_function a (function_in inner) ≡ some_of (sense a e) = ap (by_function a) f ∙ read in
    subst (λ (o : Option Transitions). CoverChanges a e (unwrap_or (option_or o (some_of (by_timing a (groups inner)))) all_transitions)) (sym said)
    (some-covers inner a e (has_some (sense a e)) (covers a e) (subst (λ (o : Option Transitions). IsSome o) read s))

-- Each sense has a transition

abbrev IsGood : Option Transitions → Type 0
IsGood o = (t : Transitions) → o ≡ Some t → has_some t ≡ true

none-good : IsGood None
none-good t e = cc

some-good : (t : Transitions) → IsGood (some_of t)
some-good t = cases (has_some t) refl
  where
    cases : (b : Bool) → has_some t ≡ b → IsGood (if b then Some t else None)
    cases true h u e = let same : t ≡ u = cc in subst (λ (x : Transitions). has_some x ≡ true) same h
    cases false h u e = cc

function-good : (text a : List ℕ) → IsGood (function_sense text a)
function-good text a = cases (expression_of text)
  where
    cases : (o : Option Expression) → IsGood (option_and_then (λ e. some_of (sense a e)) o)
    cases None = none-good
    cases (Some e) = some-good (sense a e)

or-good : (o p : Option Transitions) → IsGood o → IsGood p → IsGood (option_or o p)
or-good None p f g = g
or-good (Some t) p f g = f

unwrap-good : (o : Option Transitions) → IsGood o → has_some (unwrap_or o all_transitions) ≡ true
unwrap-good None f = refl
unwrap-good (Some t) f = f t refl

by-function-good : (a : List ℕ) (f : Option (List ℕ)) → IsGood (by_function a f)
by-function-good a None = none-good
by-function-good a (Some text) = function-good text a

gate-good : (inner : Statements) (a : List ℕ) → has_some (gate_sense inner a) ≡ true
gate-good inner a =
    unwrap-good (option_or (by_function a (function_in inner)) (some_of (by_timing a (groups inner))))
    (or-good (by_function a (function_in inner)) (some_of (by_timing a (groups inner))) (by-function-good a (function_in inner)) (some-good (by_timing a (groups inner))))

through-good : (s : Transitions) (o : Option Transitions) → IsGood (option_and_then (λ t. some_of (through s t)) o)
through-good s None = none-good
through-good s (Some t) = some-good (through s t)

keeper-good : (key d : List ℕ) (f : Option (List ℕ)) (o : Option Group) → IsGood (keeper_sense key d f o)
keeper-good key d f None = none-good
keeper-good key d f (Some g) = cases (literal_sense d (last_value key g.inner))
  where
    cases : (o : Option Transitions) → IsGood (option_and_then (λ s. option_and_then (λ t. some_of (through s t)) (state_sense (two_of (names_in g.items)) f)) o)
    cases None = none-good
    cases (Some s) = through-good s (state_sense (two_of (names_in g.items)) f)

stored-good : (kind key : List ℕ) (gs : List Group) (d y : List ℕ) → has_some (stored_sense kind key gs d y) ≡ true
stored-good kind key gs d y =
    unwrap-good (keeper_sense key d (function_in (pin_inside gs y)) (first_named kind gs)) (keeper-good key d (function_in (pin_inside gs y)) (first_named kind gs))

if-good : (b : Bool) (t : Transitions) → has_some t ≡ true → has_some (if b then t else all_transitions) ≡ true
if-good true t h = h
if-good false t h = refl

pub sense-good : (gs : List Group) (cell : Cell) (a y : List ℕ) → has_some (sense_in gs cell a y) ≡ true
sense-good gs (Gate inputs outputs min max) a y = gate-good (pin_inside gs y) a
sense-good gs (Latch d g high outs ignored setup hold has_hold dq_min dq_max cq_min cq_max has_cq width) a y =
    if-good (bytes_eq a d) (stored_sense (codes "latch") (codes "data_in") gs d y) (stored-good (codes "latch") (codes "data_in") gs d y)
sense-good gs (Flop d clock rising outs ignored setup hold has_hold cq_min cq_max width) a y =
    if-good (bytes_eq a d) (stored_sense (codes "ff") (codes "next_state") gs d y) (stored-good (codes "ff") (codes "next_state") gs d y)
sense-good gs (Clock input output invert ignored) a y = refl
