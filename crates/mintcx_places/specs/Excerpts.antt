-- A line as it is shown, and what of it is marked.
use Rattle.std.specs.Prelude.{◌≡◌, ◌≤◌, ℕ, ◌+◌, max, min, Bool, true, false, ◌==◌, ◌&&◌, nat_le, nat_lt, List, []}
use Rattle.std.specs.Prelude.{◌∷◌, ◌++◌, codes, flat_map, length, slice_range, if◌then◌else◌}
use Rattle.mintcx_places.specs.declared.excerpts.Excerpt.{Excerpt}
use Rattle.mintcx_places.specs.declared.excerpts.Part.{Part}
use Rattle.mintcx_places.specs.declared.excerpts.Shown.{Shown}
use Rattle.mintcx_places.specs.declared.excerpts.TheConstants.{MOST_SHOWN}
use Rattle.mintcx_places.specs.declared.lines.Range.{Range}
use Rattle.mintcx_places.specs.Lines.{IsLine, IsSpot, before_return}

-- A tab is shown as four blanks, a byte outside of 32 to 126 as `?`, and each other as it is.
abbrev pub shown_byte : ℕ → List ℕ
shown_byte b = if b == 9 then codes "    " else (if nat_le 32 b && nat_le b 126 then b ∷ [] else codes "?")

-- bytes as they are shown
abbrev pub shown : List ℕ → List ℕ
shown bytes = flat_map shown_byte bytes

-- what stands where a line is cut
abbrev pub cut : Bool → List ℕ
cut true = codes "..."
cut false = []

-- What is shown of a line, and what of it is marked: the whole line or a window of it, the caret where the range
-- begins, and the marks as far as the range and the window go.
pub record IsPart (line range : Range) (part : Part) : Type 0 where
  pub from : line.from ≤ part.from
  pub before : part.from ≤ part.caret
  pub marks : part.caret ≤ part.marked
  pub behind : part.marked ≤ part.to
  pub to : part.to ≤ line.to
  pub narrow : part.to ≤ part.from + MOST_SHOWN
  pub whole : line.to ≤ line.from + MOST_SHOWN → (part.from ≡ line.from) × (part.to ≡ line.to)
  pub caret : part.caret ≡ min range.from line.to
  pub marked : part.marked ≡ max part.caret (min range.to part.to)

-- what is shown before the caret, of what is marked, and behind that
abbrev pub lead : List ℕ → Range → Part → List ℕ
lead text line part = cut (nat_lt line.from part.from) ++ shown (slice_range text part.from part.caret)

abbrev pub marked : List ℕ → Part → List ℕ
marked text part = shown (slice_range text part.caret part.marked)

abbrev pub tail : List ℕ → Range → Part → List ℕ
tail text line part = shown (slice_range text part.marked part.to) ++ cut (nat_lt part.to line.to)

-- The part of a line is shown, with its marks: one at least.
pub record IsShown (text : List ℕ) (line : Range) (part : Part) (is : Shown) : Type 0 where
  pub whole : is.line ≡ (lead text line part ++ marked text part) ++ tail text line part
  pub caret : is.caret ≡ length (lead text line part)
  pub marks : is.marks ≡ max (length (marked text part)) 1

-- An excerpt shows the line on which a range begins, with marks from there on, and says where that is.
pub record IsExcerpt (text : List ℕ) (range : Range) (excerpt : Excerpt) : Type 0 where
  pub end : ℕ
  pub line : Range
  pub part : Part
  pub is_line : IsLine text line.from end
  pub to : line.to ≡ before_return text line.from end
  pub above : line.from ≤ range.from
  pub below : range.from ≤ end
  pub is_part : IsPart line range part
  pub spot : IsSpot text range.from excerpt.spot
  pub is_shown : IsShown text line part
      (record { line = excerpt.line; caret = excerpt.caret; marks = excerpt.marks })
