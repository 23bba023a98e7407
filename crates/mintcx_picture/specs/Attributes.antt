-- Attributes.
use Rattle.std.specs.Prelude.{ℕ, List, [], ◌∷◌, ◌++◌, decimal}

-- an attribute that is a number, by the text before the number
abbrev pub numbered : List ℕ → ℕ → List ℕ
numbered name number = name ++ decimal number ++ 34 ∷ []

-- an attribute that is a word, by the text before it
abbrev pub worded : List ℕ → List ℕ → List ℕ
worded name word = name ++ word ++ 34 ∷ []
