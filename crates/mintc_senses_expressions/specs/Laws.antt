-- What holds of expressions and their texts.
use Rattle.std.specs.Prelude.{◌≡◌, ℕ, List, Some}
use Rattle.mintc_senses_expressions.specs.Expressions.{Expression, sense, CoverChanges}
use Rattle.mintc_senses_expressions.specs.Grammar.{IsExpressionOf}
use Rattle.mintc_senses_expressions.specs.Reading.{expression_of}

-- what is read of a text is written there
abbrev pub AreWritten : Type 0
AreWritten = (text : List ℕ) (e : Expression) → expression_of text ≡ Some e → IsExpressionOf text e

-- what is written in a text is read of it
abbrev pub AreReadBack : Type 0
AreReadBack = (text : List ℕ) (e : Expression) → IsExpressionOf text e → expression_of text ≡ Some e

-- the sense of a name covers what the expression does when that name alone changes
abbrev pub SensesCover : Type 0
SensesCover = (n : List ℕ) (e : Expression) → CoverChanges n e (sense n e)
