-- What the definitions say of one another.
use Rattle.std.specs.Prelude.{◌≡◌, List, ◌∷◌, ◌++◌}
use Rattle.mintc_sdf_tokens.specs.Tokens.{Token, closing}
use Rattle.mintc_sdf_tokens.specs.Items.{Items, spell, front, items, after}

-- Tokens are their items, as these are written, and what stands behind them.
abbrev pub AreWritten : Type 0
AreWritten = (ts : List Token) → ts ≡ spell (items ts) ++ after ts

-- Items that are written before a closing parenthesis are read back.
abbrev pub AreReadBack : Type 0
AreReadBack = (is : Items) (rest : List Token) →
    front (spell is ++ closing ∷ rest) ≡ record { items = is; after = closing ∷ rest }
