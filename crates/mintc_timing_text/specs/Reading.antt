-- Where a reader of lines stands in a text.
use Rattle.std.specs.Prelude.{◌≡◌, ◌≤◌, ◌+◌, ℕ, List, ◌++◌, length, min}
use Rattle.mintc_text.specs.declared.limits.TheConstants.{MOST_BYTES}
use Rattle.mintc_text.specs.Lines.{ended, text_of, Follows, IsStuck}
use Rattle.mintc_timing_text.specs.Fields.{Spells}

-- What a reader has yet to read of a text, and the number of the line that it asked for last, 0 at first.
pub record Reading : Type 0 where
  pub left : List ℕ
  pub number : ℕ

-- The number of the next line, as 32 bits hold it.
abbrev pub number_after : ℕ → ℕ
number_after n = min (n + 1) 4294967295

-- The next line spells the value, and is read.
pub record HasRead {V : Type 0} (F : V → List (List ℕ) → Type 0) (old : List ℕ) (v : V) (new : List ℕ) : Type 0 where
  pub line : List ℕ
  pub spells : Spells F v line
  pub whole : old ≡ ended line ++ new

-- No line comes next that spells a value.
abbrev pub HasNone : {V : Type 0} → (V → List (List ℕ) → Type 0) → List ℕ → Type 0
HasNone {V} F left = (v : V) (line more : List ℕ) → left ≡ ended line ++ more → Spells F v line → ⊥

-- The lines that were read lead from one state to another. They are counted as far as 32 bits go.
pub record HasPassed {S : Type 0} (next : S → List ℕ → S → Type 0) (a : S) (old new : Reading) (b : S) : Type 0 where
  pub lines : List (List ℕ)
  pub whole : old.left ≡ text_of lines ++ new.left
  pub follows : Follows next a lines b
  pub count : old.number + length lines ≤ 4294967295 → new.number ≡ old.number + length lines

-- Lines lead on from a state, to none of the last, and the line of this number is no line that may come then.
pub record HasStopped {S : Type 0} (next : S → List ℕ → S → Type 0) (is_last : S →
    Type 0) (a : S) (old : Reading) (n : ℕ) : Type 0 where
  pub state : S
  pub here : Reading
  pub passed : HasPassed next a old here state
  pub open_there : is_last state → ⊥
  pub stuck : IsStuck next state here.left
  pub counted : n ≡ number_after here.number

-- The lines that were read of a short text lead to this state.
pub record IsAt {S : Type 0} (next : S → List ℕ → S → Type 0) (start : S) (text : List ℕ) (reading : Reading)
    (state : S) : Type 0 where
  pub short : length text ≤ MOST_BYTES
  pub passed : HasPassed next start (record { left = text; number = 0 }) reading state
