-- Where a walk over the tokens of a text stands: inside of some lists, which are closed one after the other.
use Rattle.std.specs.Prelude.{◌≡◌, List, [], ◌∷◌, ◌++◌, Option, Some, option_and_then}
use Rattle.mintc_sdf_tokens.specs.Tokens.{Token, closing}
use Rattle.mintc_sdf_tokens.specs.Items.{Items, spell}
use Rattle.mintc_sdf_edges.specs.Telling.{Progress, after_items, after_list}

-- rows of items, each with the parenthesis that closes its list
unfoldable pub spelled : List Items → List Token
spelled [] = []
spelled (is ∷ more) = spell is ++ closing ∷ spelled more

-- what is known after them
abbrev pub after_rows : Progress → List Items → Option Progress
after_rows p [] = Some p
after_rows p (is ∷ more) = option_and_then (λ q. after_rows q more) (after_items p is)

-- These rows are left of others, and what is known then completes what was known.
abbrev pub IsOn : Progress → List Items → Progress → List Token → Type 0
IsOn p rows q ts = (left : List Items) × (ts ≡ spelled left) × (after_rows p rows ≡ after_rows q left)

-- The list inside of which rows begin was passed, or of a block its keyword: so many rows are left.
abbrev pub IsEntered : Progress → Items → List Items → Progress → List Token → Type 0
IsEntered p inner rows q ts =
    (left : List Items) × (ts ≡ spelled left)
    × (option_and_then (λ q. after_rows q rows) (after_list p inner) ≡ after_rows q left)
