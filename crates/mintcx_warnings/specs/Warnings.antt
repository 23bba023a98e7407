-- Warnings in their parts.
use Rattle.std.specs.Prelude.{◌≡◌, ℕ, ◌-◌, nat_le, List, [], ◌∷◌, ◌++◌, Option, Some}
use Rattle.std.specs.Prelude.{None, codes, decimal, if◌then◌else◌}
use Rattle.std.specs.Prelude.{replicate}
use Rattle.mintcx_places.specs.declared.excerpts.Excerpt.{Excerpt}
use Rattle.mintcx_places.specs.declared.lines.Range.{Range}
use Rattle.mintcx_places.specs.Excerpts.{IsExcerpt}
use Rattle.mintcx_refusals.specs.Messages.{IsWide, place_text}
use Rattle.mintcx_warnings.specs.declared.said.Said.{Said}

-- a name between quotes
abbrev pub quoted : List ℕ → List ℕ
quoted name = codes "`" ++ name ++ codes "`"

-- how many others there are behind the first of so many, where there are some
abbrev pub more_text : List ℕ → ℕ → List ℕ
more_text before count = if nat_le count 1 then [] else before ++ decimal (count - 1) ++ codes " more"

-- what a warning begins with
abbrev pub head_text : List ℕ → List ℕ
head_text what = codes "warning: " ++ what ++ 10 ∷ []

-- a line of advice behind a margin
abbrev pub advice_text : List ℕ → List ℕ → List ℕ → List ℕ
advice_text blanks key said = blanks ++ key ++ said ++ 10 ∷ []

-- the excerpt shows a place of a file; there is none where there is no place
abbrev pub IsShownAt : List ℕ → Option Range → Option Excerpt → Type 0
IsShownAt file None excerpt = excerpt ≡ None
IsShownAt file (Some range) excerpt = (e : Excerpt) × (excerpt ≡ Some e) × IsExcerpt file range e

-- A warning: what is met; where, in a file; why it is worth a look, and what helps.
pub record IsWarning (name file : List ℕ) (place : Option Range) (said : Said) (text : List ℕ) : Type 0 where
  pub excerpt : Option Excerpt
  pub width : ℕ
  pub is_shown : IsShownAt file place excerpt
  pub is_wide : IsWide excerpt width
  pub whole : text ≡ ((head_text said.what ++ place_text width name excerpt said.label)
      ++ advice_text (replicate width 32) (codes " = why: ") said.why)
      ++ advice_text (replicate width 32) (codes " = help: ") said.help
