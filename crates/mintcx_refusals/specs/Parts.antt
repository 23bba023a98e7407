-- Refusals in parts.
use Rattle.std.specs.Prelude.{◌≡◌, ℕ, ◌-◌, List, Option, Some, None, MatchOption}
use Rattle.mintc_text.specs.declared.refusals.Role.{Role}
use Rattle.mintc_text.specs.declared.refusals.Refusal.{Refusal}
use Rattle.mintcx_places.specs.Lines.{IsSpot}
use Rattle.mintcx_refusals.specs.declared.parts.Marked.{Marked}
use Rattle.mintcx_refusals.specs.declared.parts.Parts.{Parts}
use Rattle.mintcx_refusals.specs.declared.places.Place.{Place}
use Rattle.mintcx_refusals.specs.Files.{IsNameOf}
use Rattle.mintcx_refusals.specs.Places.{HasNoPlace, IsPlace}

-- what is marked of a place begins there, and has as many bytes
pub record IsMarkOf (file : List ℕ) (place : Place) (marked : Marked) : Type 0 where
  pub spot : IsSpot file place.mark.from marked.spot
  pub length : marked.length ≡ place.mark.to - place.mark.from

-- what is marked is that of a place; nothing is where there is no place
abbrev pub IsMarkedAt : List ℕ → Option Place → Option Marked → Type 0
IsMarkedAt file None marked = marked ≡ None
IsMarkedAt file (Some place) marked = (m : Marked) × (marked ≡ Some m) × IsMarkOf file place m

-- what is marked is what is marked of the place of which a refusal speaks; nothing is where no place is known
abbrev pub IsMarkedOf : List ℕ → Refusal → Option Marked → Type 0
IsMarkedOf file refused marked =
    MatchOption marked (HasNoPlace file refused)
    (λ m. (place : Place) × IsPlace file refused place × IsMarkOf file place m)

-- The parts of a refusal: the name of the file that one refusal speaks of, and what is marked of the place of which
-- another one speaks, which is the same one but for a corner.
pub record HasParts (roles : List Role) (names : List (List ℕ)) (file : List ℕ) (telling own : Refusal)
    (parts : Parts) : Type 0 where
  pub name : IsNameOf roles names telling parts.name.now
  pub marked : IsMarkedOf file own parts.marked
