-- Lines of a text and places in it. Places are bytes counted from 0, lines and columns are counted from 1.
use Rattle.std.specs.Prelude.{◌≡◌, ◌≢◌, ◌<◌, ◌≤◌, ℕ, ◌+◌, ◌-◌, ◌⊎◌, ◌==◌, ◌&&◌, nat_lt, List, length, take}
use Rattle.std.specs.Prelude.{slice_index, if◌then◌else◌}
use Rattle.std.specs.List.{count_by}
use Rattle.mintc_text.specs.Signs.{line_feed}
use Rattle.mintcx_places.specs.declared.lines.Range.{Range}
use Rattle.mintcx_places.specs.declared.lines.Spot.{Spot}

-- how many line feeds a text has
abbrev pub feeds : List ℕ → ℕ
feeds text = count_by (λ b. b == line_feed) text

-- a line begins at a place: the text does, or a line feed stands right before it
abbrev pub Begins : List ℕ → ℕ → Type 0
Begins text at = (at ≡ 0) ⊎ (slice_index text (at - 1) ≡ line_feed)

-- no line feed stands from one place up to another
abbrev pub IsFree : List ℕ → ℕ → ℕ → Type 0
IsFree text from to = (k : ℕ) → from ≤ k → k < to → slice_index text k ≢ line_feed

-- A line goes from one place up to another: it begins there, has no line feed, and ends before one or with the text.
pub record IsLine (text : List ℕ) (from end : ℕ) : Type 0 where
  pub begins : Begins text from
  pub order : from ≤ end
  pub within : end ≤ length text
  pub free : IsFree text from end
  pub ends : end < length text → slice_index text end ≡ line_feed

-- where such a line ends without the carriage return at its end, if it has one
abbrev pub before_return : List ℕ → ℕ → ℕ → ℕ
before_return text from end = if nat_lt from end && (slice_index text (end - 1) == 13) then end - 1 else end

-- The line of a number stands at a range, without its line feed and carriage return: one line feed less stands before
-- it, and it isn't the nothing behind the last one.
pub record IsNumbered (text : List ℕ) (number : ℕ) (range : Range) : Type 0 where
  pub end : ℕ
  pub line : IsLine text range.from end
  pub to : range.to ≡ before_return text range.from end
  pub count : number ≡ feeds (take range.from text) + 1
  pub some : range.from < length text

-- No line has the number: it is 0, or above the line feeds by more than 1, or stands for the nothing behind the last.
abbrev pub HasNoLine : List ℕ → ℕ → Type 0
HasNoLine text number =
    (number ≡ 0) ⊎ (feeds text + 1 < number) ⊎ ((number ≡ feeds text + 1) × Begins text (length text))

-- A place stands on a line and in a column: so many line feeds stand before it, and so many bytes behind the last.
pub record IsSpot (text : List ℕ) (at : ℕ) (spot : Spot) : Type 0 where
  pub from : ℕ
  pub begins : Begins text from
  pub order : from ≤ at
  pub free : IsFree text from at
  pub line : spot.line ≡ feeds (take at text) + 1
  pub column : spot.column + from ≡ at + 1

-- what is left of a line from a place on goes up to its end, without its line feed and the carriage return before it
abbrev pub IsRest : List ℕ → Range → Type 0
IsRest text range = (line : ℕ) × (end : ℕ) × IsLine text line end × (line ≤ range.from) × (range.from ≤ end)
    × (range.to ≡ before_return text range.from end)
