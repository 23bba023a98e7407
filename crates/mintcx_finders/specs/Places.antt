-- Places inside of others, and what stands there.
use Rattle.std.specs.Prelude.{◌≡◌, ◌<◌, ◌≤◌, ℕ, ◌==◌, ◌&&◌, nat_le, List, [], ◌∷◌, Option, Some, None, IfSome, length}
use Rattle.std.specs.Prelude.{slice_range, if◌then◌else◌}
use Rattle.mintc_vlex.specs.declared.token_list.Token.{Token}
use Rattle.mintc_vlex.specs.Tokens.{tokens_behind}
use Rattle.mintcx_places.specs.declared.lines.Range.{Range}
use Rattle.mintcx_finders.specs.declared.found.Fault.{Fault}
use Rattle.mintcx_finders.specs.declared.found.Fault.TheVariants as fault
use Rattle.mintcx_finders.specs.declared.found.Found.{Found}

-- A range has a byte at least, and lies inside of another.
pub record IsInside (outer range : Range) : Type 0 where
  pub above : outer.from ≤ range.from
  pub some : range.from < range.to
  pub below : range.to ≤ outer.to

-- A range has a byte at least, and is one of a text.
pub record IsRange (text : List ℕ) (range : Range) : Type 0 where
  pub some : range.from < range.to
  pub within : range.to ≤ length text

-- a range is that of the first token of another, if that begins where a token ends or the text begins
abbrev pub IsFirstToken : List ℕ → Range → Range → Type 0
IsFirstToken text outer range =
    (t : Token) × (ts : List Token) × (tokens_behind text outer.from ≡ t ∷ ts) × (range.from ≡ t.from)
    × (range.to ≡ t.to)

-- the bytes of a range of a text, and none where it is none of the text
abbrev pub part : List ℕ → Range → List ℕ
part text range =
    if nat_le range.from range.to && nat_le range.to (length text) then slice_range text range.from range.to else []

-- a name without the backslash that an escaped one begins with
abbrev pub bare : List ℕ → List ℕ
bare [] = []
bare (b ∷ bs) = if b == 92 then bs else b ∷ bs

-- where a name stood before that is given or driven again
abbrev pub earlier_of : Fault → Option Range
earlier_of (fault.Again class earlier) = Some earlier
earlier_of (fault.Driven earlier) = Some earlier
earlier_of _ = None

-- what is found writes the name that stood before, if one did
abbrev pub HasEarlierName : List ℕ → Found → Type 0
HasEarlierName text found =
    IfSome (earlier_of found.fault) (λ earlier. bare (part text found.range) ≡ bare (part text earlier))
