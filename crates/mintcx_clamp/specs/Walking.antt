-- The tokens of a text with `0` in the place of numbers below 0: which words that are is known token by token. Numbers
-- that may not be below 0 stand alone in parentheses, right inside of the list of an IOPATH, INTERCONNECT, PORT or
-- WIDTH.
use Rattle.std.specs.Prelude.{zero, suc, Bool, true, false, ◌||◌, if◌then◌else◌, ℕ, List, [], ◌∷◌, codes}
use Rattle.mintc_sdf_tokens.specs.declared.reader.TokenKind.{TokenKind}
use Rattle.mintc_sdf_tokens.specs.declared.reader.TokenKind.TheVariants as mark
use Rattle.mintc_sdf_tokens.specs.Tokens.{Token, opening, closing, word, string, bad}
use Rattle.mintc_sdf_tokens.specs.Reading.{mark_of}
use Rattle.mintc_sdf_tokens.specs.Words.{is_key}
use Rattle.mintcx_clamp.specs.declared.walking.Mode.{Mode}
use Rattle.mintcx_clamp.specs.declared.walking.Mode.TheVariants as mode
use Rattle.mintcx_clamp.specs.Words.{clamped_word}

-- keywords of lists whose numbers may be below 0
abbrev pub is_signed : List ℕ → Bool
is_signed k = is_key (codes "SETUP") k || is_key (codes "HOLD") k || is_key (codes "SETUPHOLD") k

-- keywords of lists whose numbers may not
abbrev pub is_unsigned : List ℕ → Bool
is_unsigned k = is_key (codes "IOPATH") k || is_key (codes "INTERCONNECT") k || is_key (codes "PORT") k
    || is_key (codes "WIDTH") k

-- where a walk stands behind the first word of a list
abbrev pub behind : List ℕ → Mode
behind k = if is_signed k then mode.Kept 0 else (if is_unsigned k then mode.Values else mode.Free)

-- behind an opening parenthesis
abbrev pub behind_opening : TokenKind → List ℕ → Mode
behind_opening mark.Open w = mode.Opened
behind_opening mark.Word w = behind w
behind_opening _ w = mode.Free

-- right inside of a list whose numbers may not be below 0
abbrev pub among_values : TokenKind → Mode
among_values mark.Open = mode.Begun
among_values mark.Close = mode.Free
among_values _ = mode.Values

-- behind the parenthesis that may open a value
abbrev pub in_value : TokenKind → Mode
in_value mark.Open = mode.Inner 1
in_value mark.Close = mode.Values
in_value _ = mode.Inner 0

-- in a list that stays as it is, inside of which so many are open; `out` is where the walk stands behind it
abbrev pub deep : (ℕ → Mode) → Mode → TokenKind → ℕ → Mode
deep at out mark.Open d = at (suc d)
deep at out mark.Close zero = out
deep at out mark.Close (suc d) = at d
deep at out _ d = at d

-- where a walk stands behind a token of this kind, which is this word if it is one
abbrev pub turned : Mode → TokenKind → List ℕ → Mode
turned mode.Free mark.Open w = mode.Opened
turned mode.Free _ w = mode.Free
turned mode.Opened kind w = behind_opening kind w
turned mode.Values kind w = among_values kind
turned mode.Begun kind w = in_value kind
turned (mode.Kept d) kind w = deep mode.Kept mode.Free kind d
turned (mode.Inner d) kind w = deep mode.Inner mode.Values kind d

-- behind a token
abbrev pub turn : Mode → Token → Mode
turn m opening = turned m mark.Open []
turn m closing = turned m mark.Close []
turn m (word w) = turned m mark.Word w
turn m (string s) = turned m mark.Quote []
turn m bad = turned m mark.Quote []

-- whether a word is a value, given what comes next: it stands alone in its list
abbrev pub is_value : Mode → TokenKind → Bool
is_value mode.Begun mark.Close = true
is_value _ _ = false

-- what a token becomes, before these
abbrev pub put : Mode → Token → List Token → Token
put m (word w) ts = word (if is_value m (mark_of ts) then clamped_word w else w)
put m t ts = t

-- what tokens become
abbrev pub followed : Mode → List Token → List Token
followed m [] = []
followed m (t ∷ ts) = put m t ts ∷ followed (turn m t) ts
