-- Laws of pictures.
use Rattle.std.specs.Prelude.{ℕ, ℤ, pos, ◌-ℤ◌, ◌≤ℤ◌, List}
use Rattle.mintcx_picture.specs.declared.scale.Scale.{Scale}
use Rattle.mintcx_picture.specs.Escapes.{IsHarmless, escaped}
use Rattle.mintcx_picture.specs.Places.{IsNearest, IsScale, place_of}

-- Each text is harmless once it is escaped.
abbrev pub TextsAreHarmless : Type 0
TextsAreHarmless = (text : List ℕ) → IsHarmless (escaped text)

-- Each time of a stretch stands at the number of pixels nearest to its exact place; the stretch begins 272 pixels from
-- the left.
abbrev pub PlacesAreNearest : Type 0
PlacesAreNearest = (scale : Scale) (time : ℤ) → IsScale scale → scale.first ≤ℤ time → time ≤ℤ scale.last →
    IsNearest scale time (pos (place_of scale time) -ℤ pos 272)
