-- White space, strings and comments.
use Rattle.std.specs.Prelude.{◌≡◌, ℕ, suc, ◌+◌, ◌<◌, Bool, false, not, ◌&&◌, ◌||◌, ◌==◌, if◌then◌else◌, List, [], ◌∷◌}
use Rattle.std.specs.Prelude.{drop, slice_index, Option, Some, None}
use Rattle.mintc_text.specs.Signs.{backslash, carriage_return, form_feed, line_feed, quote, slash, space, star, tab}

-- space, tab, line feed, carriage return, form feed
abbrev pub is_white : ℕ → Bool
is_white b = (b == space) || (b == tab) || (b == line_feed) || (b == carriage_return) || (b == form_feed)

-- How many bytes stand before the quote that closes a string. A backslash keeps the next byte: `kept` says that one
-- stands before.
abbrev pub string_size : Bool → ℕ → List ℕ → Option ℕ
string_size kept at [] = None
string_size kept at (b ∷ bs) =
    if not kept && (b == quote) then Some at
    else string_size (not kept && (b == backslash)) (at + 1) bs

-- how many bytes stand before the line feed
abbrev pub line_size : List ℕ → ℕ
line_size [] = 0
line_size (b ∷ bs) = if b == line_feed then 0 else suc (line_size bs)

-- the place behind the first `*/` of bytes that begin at a place
abbrev pub comment_end : ℕ → List ℕ → Option ℕ
comment_end at [] = None
comment_end at (b ∷ bs) = if (b == star) && (slice_index bs 0 == slash) then Some (at + 2) else comment_end (at + 1) bs

-- How many bytes the comment has that the slash at the front begins: `// ..` to its line's end, `/* .. */` to its own.
abbrev pub comment_size : List ℕ → Option ℕ
comment_size bs =
    if slice_index bs 1 == slash then Some (line_size bs)
    else (if slice_index bs 1 == star then comment_end 2 (drop 2 bs)
    else None)

-- No `*/` stands so far behind in a text that it ends behind this place.
abbrev pub EndsBefore : List ℕ → ℕ → Type 0
EndsBefore text last = (k : ℕ) → last < k + 2 → ((slice_index text k == star) && (slice_index text (k + 1) == slash))
    ≡ false
