-- The items that tokens write: words, strings, and lists of items in parentheses. Every construct of a delay text is
-- such a list: (IOPATH A Y (1.5)) is a list of three words and a list, which has one word.
use Rattle.std.specs.Prelude.{ℕ, zero, suc, Bool, true, false, List, [], ◌∷◌, ◌++◌, length}
use Rattle.mintc_sdf_tokens.specs.Tokens.{Token, opening, closing, word, string, bad}

-- A row of items, from the first on. `none` is the row of no items; `leaf w is` begins with the word w, `quoted s is`
-- with the string s, and `list inner is` with a list in parentheses, inside of which the row `inner` stands. In each of
-- the three `is` is the row of the items behind the first.
pub data Items : Type 0 where
  none : Items
  leaf : List ℕ → Items → Items
  quoted : List ℕ → Items → Items
  list : Items → Items → Items

-- how items are written
unfoldable pub spell : Items → List Token
spell none = []
spell (leaf w is) = word w ∷ spell is
spell (quoted s is) = string s ∷ spell is
spell (list inner is) = opening ∷ spell inner ++ closing ∷ spell is

-- whether there are no items
abbrev pub is_none : Items → Bool
is_none none = true
is_none _ = false

-- how many items
abbrev pub count : Items → ℕ
count none = 0
count (leaf w is) = suc (count is)
count (quoted s is) = suc (count is)
count (list inner is) = suc (count is)

-- The items that stand whole at the front of tokens, and the tokens behind them: none, or those from the first on
-- that no whole item begins with.
pub record Front : Type 0 where
  pub items : Items
  pub after : List Token

-- no whole item stands at the front
abbrev pub nothing : List Token → Front
nothing ts = record { items = none; after = ts }

-- a word before what stands at the front
abbrev pub with_leaf : List ℕ → Front → Front
with_leaf w f = record { items = leaf w f.items; after = f.after }

-- a string before what stands at the front
abbrev pub with_quoted : List ℕ → Front → Front
with_quoted s f = record { items = quoted s f.items; after = f.after }

-- a list of items before what stands at the front
abbrev pub with_list : Items → Front → Front
with_list inner f = record { items = list inner f.items; after = f.after }

-- Behind an opening parenthesis: a list, if what follows the items inside of it closes it, and then what `go` finds
-- behind that; else no whole item.
abbrev pub nest : (List Token → Front) → List Token → Items → List Token → Front
nest go ts inner (closing ∷ rest) = with_list inner (go rest)
nest go ts inner _ = nothing (opening ∷ ts)

-- The whole items at the front, found in so many turns at most; as many turns as there are tokens are enough.
unfoldable pub fronts : ℕ → List Token → Front
fronts zero ts = nothing ts
fronts (suc n) [] = nothing []
fronts (suc n) (word w ∷ ts) = with_leaf w (fronts n ts)
fronts (suc n) (string s ∷ ts) = with_quoted s (fronts n ts)
fronts (suc n) (opening ∷ ts) = nest (fronts n) ts (fronts n ts).items (fronts n ts).after
fronts (suc n) (closing ∷ ts) = nothing (closing ∷ ts)
fronts (suc n) (bad ∷ ts) = nothing (bad ∷ ts)

-- the whole items at the front of tokens, and the tokens behind them
abbrev pub front : List Token → Front
front ts = fronts (length ts) ts

-- the whole items at the front
abbrev pub items : List Token → Items
items ts = (front ts).items

-- the tokens behind them
abbrev pub after : List Token → List Token
after ts = (front ts).after
