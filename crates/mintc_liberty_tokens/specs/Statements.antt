-- The statements that tokens write: attributes, statements of the second form, and groups.
use Rattle.std.specs.Prelude.{ℕ, zero, suc, max, Bool, true, false, ◌&&◌, if◌then◌else◌, List, [], ◌∷◌, ◌++◌, length}
use Rattle.std.specs.Prelude.{Option, Some, None, IsTrue}
use Rattle.std.specs.List.{list_all}
use Rattle.mintc_liberty_tokens.specs.Tokens.{Token, opening, closing, left, right, colon, semicolon, word, is_value}
use Rattle.mintc_liberty_tokens.specs.Tokens.{is_item}

mutual
  -- An attribute with its value's tokens, a statement of the second form with its items, or a group with its items
  -- and the statements inside.
  pub data Statement : Type 0 where
    attribute : List ℕ → List Token → Statement
    plain : List ℕ → List Token → Statement
    group : List ℕ → List Token → Statements → Statement

  pub data Statements : Type 0 where
    none : Statements
    more : Statement → Statements → Statements

-- how many statements
abbrev pub count : Statements → ℕ
count none = 0
count (more s is) = suc (count is)

-- A statement at the front of tokens, and the tokens behind it.
abbrev pub Step : Type 0
Step = Statement × List Token

-- The statements that stand whole at the front of tokens, and the tokens behind them: none, or those from the first
-- on that no whole statement begins with.
pub record Front : Type 0 where
  pub statements : Statements
  pub after : List Token

-- the tokens of this kind at the front, and those behind them
abbrev pub taken : (Token → Bool) → List Token → List Token
taken test [] = []
taken test (t ∷ ts) = if test t then t ∷ taken test ts else []

-- the tokens behind those of this kind
abbrev pub left_over : (Token → Bool) → List Token → List Token
left_over test [] = []
left_over test (t ∷ ts) = if test t then left_over test ts else t ∷ ts

-- a `;` may stand there
abbrev pub past_semicolon : List Token → List Token
past_semicolon (semicolon ∷ ts) = ts
past_semicolon ts = ts

-- behind `WORD :` and the tokens of a value, of which there is at least one: a `;`
abbrev pub valued : List ℕ → List Token → List Token → Option Step
valued w (t ∷ ts) (semicolon ∷ rest) = Some (attribute w (t ∷ ts), rest)
valued w _ _ = None

-- behind `WORD ( items ) {` and whole statements: `}` and an optional `;`
abbrev pub grouped : List ℕ → List Token → Statements → List Token → Option Step
grouped w items inner (right ∷ rest) = Some (group w items inner, past_semicolon rest)
grouped w items inner _ = None

-- behind `WORD ( items ) {`, where groups nest so deep at most
abbrev pub nested : (ℕ → List Token → Front) → ℕ → List ℕ → List Token → List Token → Option Step
nested fronts zero w items ts = None
nested fronts (suc room) w items ts = grouped w items (fronts room ts).statements (fronts room ts).after

-- behind `WORD ( items`: a group, or a statement of the second form
abbrev pub called : (ℕ → List Token → Front) → ℕ → List ℕ → List Token → List Token → Option Step
called fronts room w items (closing ∷ left ∷ ts) = nested fronts room w items ts
called fronts room w items (closing ∷ ts) = Some (plain w items, past_semicolon ts)
called fronts room w items _ = None

-- One statement, given the statements at the front of fewer tokens.
abbrev pub statement_by : (ℕ → List Token → Front) → ℕ → List Token → Option Step
statement_by fronts room (word w ∷ colon ∷ ts) = valued w (taken is_value ts) (left_over is_value ts)
statement_by fronts room (word w ∷ opening ∷ ts) = called fronts room w (taken is_item ts) (left_over is_item ts)
statement_by fronts room _ = None

-- and the statements behind it
abbrev pub and_more : (List Token → Front) → List Token → Option Step → Front
and_more go ts None = record { statements = none; after = ts }
and_more go ts (Some s) = record { statements = more s.0 (go s.1).statements; after = (go s.1).after }

-- The first number bounds the turns; as many as there are tokens are enough. `room` is how deep groups may nest here.
unfoldable pub fronts : ℕ → ℕ → List Token → Front
fronts zero room ts = record { statements = none; after = ts }
fronts (suc n) room ts = and_more (fronts n room) ts (statement_by (fronts n) room ts)

-- the statements at the front of tokens, where groups nest so deep at most
abbrev pub front : ℕ → List Token → Front
front room ts = fronts (length ts) room ts

-- How statements are written, for reading beside the function: a `;` behind a statement of the second form or a
-- group may be left out.

-- at least one token of a value; and items, of which there may be none
abbrev pub are_value : List Token → Bool
are_value [] = false
are_value (t ∷ ts) = is_value t && list_all is_value ts

-- no `;`, or one
abbrev pub is_optional : List Token → Bool
is_optional [] = true
is_optional (semicolon ∷ []) = true
is_optional _ = false

-- the groups inside nest so deep at most
abbrev mutual
  pub depth_of : Statement → ℕ
  depth_of (attribute w v) = 0
  depth_of (plain w items) = 0
  depth_of (group w items inner) = suc (depth inner)

  pub depth : Statements → ℕ
  depth none = 0
  depth (more s is) = max (depth_of s) (depth is)

-- the tokens that write some statements
pub data Writes : Statements → List Token → Type 0 where
  no_more : Writes none []
  an_attribute : (w : List ℕ) (v : List Token) (is : Statements) (ts : List Token) →
      IsTrue (are_value v) → Writes is ts → Writes (more (attribute w v) is) (word w ∷ colon ∷ v ++ semicolon ∷ ts)
  a_plain : (w : List ℕ) (items : List Token) (is : Statements) (end ts : List Token) →
      IsTrue (list_all is_item items) → IsTrue (is_optional end) → Writes is ts →
      Writes (more (plain w items) is) (word w ∷ opening ∷ items ++ closing ∷ end ++ ts)
  a_group : (w : List ℕ) (items : List Token) (inner is : Statements) (us end ts : List Token) →
      IsTrue (list_all is_item items) → Writes inner us → IsTrue (is_optional end) → Writes is ts →
      Writes (more (group w items inner) is) (word w ∷ opening ∷ items ++ closing ∷ left ∷ us ++ right ∷ end ++ ts)
