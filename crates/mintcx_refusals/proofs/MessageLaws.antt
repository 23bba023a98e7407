-- Messages in their parts.
use Rattle.std.proofs.Common.{◌≡◌, ℕ, List, [], ◌++◌, Option, Some, None, ap, subst, sym, ◌∙◌}
use Rattle.std.specs.Prelude.{IfNone, IfSome}
use Rattle.mintc_text.specs.declared.refusals.Refusal.{Refusal}
use Rattle.mintcx_places.specs.declared.excerpts.Excerpt.{Excerpt}
use Rattle.mintcx_places.specs.declared.lines.Spot.{Spot}
use Rattle.mintcx_refusals.specs.declared.places.Place.{Place}
use Rattle.mintcx_refusals.specs.Messages.{IsExcerptAt, IsExcerptOf, IsSpotAt, IsSpotOf}
use Rattle.mintcx_refusals.specs.Places.{HasNoPlace, IsPlace}
use Rattle.mintcx_refusals.specs.declared.parts.Marked.{Marked}
use Rattle.mintcx_refusals.specs.Parts.{IsMarkedAt, IsMarkedOf}
use Rattle.mintcx_refusals.proofs.WrittenLaws.{in_two, in_three, in_four, in_five}

-- the excerpt of the place of a refusal is that of the refusal
pub excerpt_is : (file : List ℕ) (refused : Refusal) (place : Option Place) (excerpt : Option Excerpt) → IfSome place (IsPlace file refused) →
    IfNone place (HasNoPlace file refused) → IsExcerptAt file place excerpt → IsExcerptOf file refused excerpt
excerpt_is file refused None excerpt some none is = let P : Option Excerpt → Type 0 = IsExcerptOf file refused in subst P (sym is) none
excerpt_is file refused (Some place) excerpt some none is =
    let P : Option Excerpt → Type 0 = IsExcerptOf file refused in subst P (sym is.1) (place, some, is.2)

pub spot_is : (file : List ℕ) (refused : Refusal) (place : Option Place) (spot : Option Spot) → IfSome place (IsPlace file refused) →
    IfNone place (HasNoPlace file refused) → IsSpotAt file place spot → IsSpotOf file refused spot
spot_is file refused None spot some none is = let P : Option Spot → Type 0 = IsSpotOf file refused in subst P (sym is) none
spot_is file refused (Some place) spot some none is =
    let P : Option Spot → Type 0 = IsSpotOf file refused in subst P (sym is.1) (place, some, is.2)

-- what is marked of the place of a refusal is that of the refusal
pub marked_is : (file : List ℕ) (refused : Refusal) (place : Option Place) (marked : Option Marked) → IfSome place (IsPlace file refused) →
    IfNone place (HasNoPlace file refused) → IsMarkedAt file place marked → IsMarkedOf file refused marked
marked_is file refused None marked some none is = let P : Option Marked → Type 0 = IsMarkedOf file refused in subst P (sym is) none
marked_is file refused (Some place) marked some none is =
    let P : Option Marked → Type 0 = IsMarkedOf file refused in subst P (sym is.1) (place, some, is.2)

-- four parts from the start, and two
pub made : {z a b c new : List ℕ} (p q r s : List ℕ) → z ≡ [] → a ≡ z ++ p → b ≡ a ++ q → c ≡ b ++ r → new ≡ c ++ s → new ≡ p ++ q ++ r ++ s
made p q r s e f g h i = in_four [] p q r s (f ∙ ap (λ v. v ++ p) e) g h i

pub made_of_two : {z a new : List ℕ} (p q : List ℕ) → z ≡ [] → a ≡ z ++ p → new ≡ a ++ q → new ≡ p ++ q
made_of_two p q e f g = in_two [] p q (f ∙ ap (λ v. v ++ p) e) g

pub made_of_five : {z a b c d new : List ℕ} (p q r s t : List ℕ) → z ≡ [] → a ≡ z ++ p → b ≡ a ++ q → c ≡ b ++ r → d ≡ c ++ s → new ≡ d ++ t →
    new ≡ p ++ q ++ r ++ s ++ t
made_of_five p q r s t e f g h i j = in_five [] p q r s t (f ∙ ap (λ v. v ++ p) e) g h i j

pub made_of_three : {z a b new : List ℕ} (p q r : List ℕ) → z ≡ [] → a ≡ z ++ p → b ≡ a ++ q → new ≡ b ++ r → new ≡ p ++ q ++ r
made_of_three p q r e f g h = in_three [] p q r (f ∙ ap (λ v. v ++ p) e) g h
