-- What holds of the senses of a library's cells.
use Rattle.std.specs.Prelude.{◌≡◌, ℕ, List, Some, Ok}
use Rattle.mintc_senses_expressions.specs.Transitions.{has_some}
use Rattle.std.specs.Prelude.{true}
use Rattle.mintc_cells.specs.declared.cell.Cell.{Cell}
use Rattle.mintc_liberty_tokens.specs.Statements.{Statements}
use Rattle.mintc_liberty_cell.specs.Meaning.{Group}
use Rattle.mintc_liberty.specs.Texts.{library_of}
use Rattle.mintc_senses_expressions.specs.Expressions.{Expression, CoverChanges}
use Rattle.mintc_senses_expressions.specs.Grammar.{IsExpressionOf}
use Rattle.mintc_senses_expressions.specs.Reading.{function_sense}
use Rattle.mintc_senses.specs.Senses.{function_in, gate_sense, library_inside, sense_in}
use Rattle.std.specs.Prelude.{IsSome}

-- a text in form is read as its library
abbrev pub AreOfTheLibrary : Type 0
AreOfTheLibrary = (text : List ℕ) (is : Statements) → library_of text ≡ Ok is → library_inside text ≡ is

-- where an output's function has an input, the gate's sense covers what the function does when that input alone changes
abbrev pub GatesCover : Type 0
GatesCover = (inner : Statements) (a text : List ℕ) (e : Expression) → function_in inner ≡ Some text →
    IsExpressionOf text e → IsSome (function_sense text a) → CoverChanges a e (gate_sense inner a)

-- each sense has a transition
abbrev pub AreSome : Type 0
AreSome = (gs : List Group) (cell : Cell) (a y : List ℕ) → has_some (sense_in gs cell a y) ≡ true
