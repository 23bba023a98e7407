-- Messages of refusals.
use Rattle.std.specs.Prelude.{◌≡◌, ◌≤◌, ℕ, ◌-◌, List, [], ◌∷◌, ◌++◌, Option, Some, None, MatchOption, codes}
use Rattle.std.specs.Prelude.{decimal, length, replicate}
use Rattle.mintc_text.specs.declared.refusals.Role.{Role}
use Rattle.mintc_text.specs.declared.refusals.Refusal.{Refusal}
use Rattle.mintc_text.specs.Lines.{words}
use Rattle.mintc_text.specs.Refusals.{refusal_fields, refusal_number}
use Rattle.mintcx_places.specs.declared.excerpts.Excerpt.{Excerpt}
use Rattle.mintcx_places.specs.declared.lines.Spot.{Spot}
use Rattle.mintcx_places.specs.Excerpts.{IsExcerpt}
use Rattle.mintcx_places.specs.Lines.{IsSpot}
use Rattle.mintcx_refusals.specs.declared.places.Place.{Place}
use Rattle.mintcx_refusals.specs.Files.{IsNameOf, teller}
use Rattle.mintcx_refusals.specs.Places.{HasNoPlace, IsPlace}

-- what a message begins with: the number of its refusal
abbrev pub head : Refusal → List ℕ
head refused = codes "error[" ++ decimal (refusal_number refused) ++ codes "]: "

-- mintc's own line of a refusal, without its line feed
abbrev pub own_line : Refusal → List ℕ
own_line refused = words (codes "refused" ∷ decimal (refusal_number refused) ∷ refusal_fields refused)

-- what a message ends with: mintc's own words, and where more is said
abbrev pub note_text : List ℕ → ℕ → List ℕ
note_text own number =
    codes "= note: `" ++ own ++ codes "`; `mintcx explain " ++ decimal number ++ codes "` says more" ++ 10 ∷ []

abbrev pub note : Refusal → List ℕ
note refused = note_text (own_line refused) (refusal_number refused)

-- of a corner these are both lines, its own and that of its files
abbrev pub corner_note : Refusal → Refusal → List ℕ
corner_note corner own = note_text (own_line corner ++ codes "; " ++ own_line own) (refusal_number corner)

-- a file, a line and a column
abbrev pub spot_text : List ℕ → Spot → List ℕ
spot_text name spot = name ++ codes ":" ++ decimal spot.line ++ codes ":" ++ decimal spot.column

-- a number behind so many blanks that both are as wide as the margin
abbrev pub padded : ℕ → ℕ → List ℕ
padded width number = replicate (width - length (decimal number)) 32 ++ decimal number

-- where an excerpt is from
abbrev pub arrow_text : List ℕ → List ℕ → Spot → List ℕ
arrow_text blanks name spot = blanks ++ codes "--> " ++ spot_text name spot ++ 10 ∷ []

-- a line behind its number
abbrev pub line_text : List ℕ → List ℕ → List ℕ
line_text number line = number ++ codes " | " ++ line ++ 10 ∷ []

-- marks below a line, and a label behind them
abbrev pub marks_text : List ℕ → ℕ → ℕ → List ℕ → List ℕ
marks_text blanks caret marks label =
    blanks ++ codes " | " ++ replicate caret 32 ++ replicate marks 94 ++ label ++ 10 ∷ []

-- an excerpt behind a margin: where it is from, the line behind its number, and the marks with their label
abbrev pub excerpt_text : ℕ → List ℕ → Excerpt → List ℕ → List ℕ
excerpt_text width name e label =
    arrow_text (replicate width 32) name e.spot
    ++ line_text (padded width e.spot.line) e.line
    ++ marks_text (replicate width 32) e.caret e.marks label

-- a margin has room for the number of an excerpt's line
abbrev pub IsWide : Option Excerpt → ℕ → Type 0
IsWide None width = Unit {0}
IsWide (Some e) width = length (decimal e.spot.line) ≤ width

-- a file alone, if there is one
abbrev pub file_text : List ℕ → List ℕ
file_text [] = []
file_text (b ∷ bs) = codes " --> " ++ (b ∷ bs) ++ 10 ∷ []

-- the place, as it is shown: with an excerpt, or else its file alone
abbrev pub place_text : ℕ → List ℕ → Option Excerpt → List ℕ → List ℕ
place_text width name None label = file_text name
place_text width name (Some e) label = excerpt_text width name e label

-- the excerpt shows what is marked of a place, and the spot is where that begins; there is none where there is no place
abbrev pub IsExcerptAt : List ℕ → Option Place → Option Excerpt → Type 0
IsExcerptAt file None excerpt = excerpt ≡ None
IsExcerptAt file (Some place) excerpt = (e : Excerpt) × (excerpt ≡ Some e) × IsExcerpt file place.mark e

abbrev pub IsSpotAt : List ℕ → Option Place → Option Spot → Type 0
IsSpotAt file None spot = spot ≡ None
IsSpotAt file (Some place) spot = (s : Spot) × (spot ≡ Some s) × IsSpot file place.mark.from s

-- the excerpt shows what is marked of the place of which a refusal speaks; there is none where no place is known
abbrev pub IsExcerptOf : List ℕ → Refusal → Option Excerpt → Type 0
IsExcerptOf file refused excerpt =
    MatchOption excerpt (HasNoPlace file refused)
    (λ e. (place : Place) × IsPlace file refused place × IsExcerpt file place.mark e)

-- The message of a refusal: what it is, behind its number; where, in the file that it speaks of; some advice, behind
-- other places or none; and mintc's own line.
pub record IsMessage (roles : List Role) (names : List (List ℕ)) (file : List ℕ) (refused : Refusal)
    (text : List ℕ) : Type 0 where
  pub what : List ℕ
  pub name : List ℕ
  pub excerpt : Option Excerpt
  pub width : ℕ
  pub label : List ℕ
  pub advice : List ℕ
  pub is_name : IsNameOf roles names refused name
  pub is_excerpt : IsExcerptOf file refused excerpt
  pub is_wide : IsWide excerpt width
  pub whole : text
      ≡ (((head refused ++ what ++ 10 ∷ []) ++ place_text width name excerpt label) ++ advice) ++ note refused

-- The message that a corner is refused: what its own files are refused for, and where; some advice, behind other
-- places or none; and both lines.
pub record IsCornerMessage (roles : List Role) (names : List (List ℕ)) (file : List ℕ) (corner own : Refusal)
    (text : List ℕ) : Type 0 where
  pub what : List ℕ
  pub own_what : List ℕ
  pub name : List ℕ
  pub excerpt : Option Excerpt
  pub width : ℕ
  pub label : List ℕ
  pub advice : List ℕ
  pub is_name : IsNameOf roles names (teller corner own) name
  pub is_excerpt : IsExcerptOf file own excerpt
  pub is_wide : IsWide excerpt width
  pub whole : text
      ≡ ((((head corner ++ what ++ 10 ∷ []) ++ (head own ++ own_what ++ 10 ∷ []))
      ++ place_text width name excerpt label) ++ advice) ++ corner_note corner own

-- a file as a line begins with it, if there is one
abbrev pub short_file : List ℕ → List ℕ
short_file [] = []
short_file (b ∷ bs) = (b ∷ bs) ++ codes ": "

-- a place as a line begins with it: file, line and column, or else the file alone
abbrev pub short_place : List ℕ → Option Spot → List ℕ
short_place name None = short_file name
short_place name (Some spot) = spot_text name spot ++ codes ": "

-- the spot is where that begins which is marked of the place of which a refusal speaks
abbrev pub IsSpotOf : List ℕ → Refusal → Option Spot → Type 0
IsSpotOf file refused spot =
    MatchOption spot (HasNoPlace file refused)
    (λ s. (place : Place) × IsPlace file refused place × IsSpot file place.mark.from s)

-- The message of a refusal in one line: where, and what it is, behind its number.
pub record IsShortMessage (roles : List Role) (names : List (List ℕ)) (file : List ℕ) (refused : Refusal)
    (text : List ℕ) : Type 0 where
  pub name : List ℕ
  pub spot : Option Spot
  pub what : List ℕ
  pub is_name : IsNameOf roles names refused name
  pub is_spot : IsSpotOf file refused spot
  pub whole : text ≡ short_place name spot ++ (head refused ++ what ++ 10 ∷ [])
