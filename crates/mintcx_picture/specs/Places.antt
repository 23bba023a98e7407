-- Where times stand on a scale.
use Rattle.std.specs.Prelude.{ℕ, ◌+◌, ◌≤◌, ℤ, pos, negsuc, ◌+ℤ◌, ◌-ℤ◌, ◌*ℤ◌, ◌≤ℤ◌, ◌<ℤ◌, unsigned_abs}
use Rattle.std.specs.Int.{int_div_euclid, int_max, int_min}
use Rattle.mintcx_picture.specs.declared.scale.Scale.{Scale}

-- how long the stretch of a scale is
abbrev pub span_of : Scale → ℤ
span_of scale = scale.last -ℤ scale.first

-- a time at which a stretch may begin or end, and one that isn't far from it
abbrev pub IsScaleTime : ℤ → Type 0
IsScaleTime time = (negsuc 9999999999999999999999 ≤ℤ time) × (time ≤ℤ pos 10000000000000000000000)

abbrev pub IsNearTime : ℤ → Type 0
IsNearTime time = (negsuc 49999999999999999999999 ≤ℤ time) × (time ≤ℤ pos 50000000000000000000000)

-- A scale has a stretch that takes some time, and some pixels.
pub record IsScale (scale : Scale) : Type 0 where
  pub some : scale.first <ℤ scale.last
  pub first : IsScaleTime scale.first
  pub last : IsScaleTime scale.last
  pub least : 920 ≤ scale.wide
  pub most : scale.wide ≤ 2400

-- where the stretch ends, in pixels
abbrev pub edge_of : Scale → ℕ
edge_of scale = 272 + scale.wide

-- How far a time stands from where the stretch begins, in pixels, taken span times: its exact place is this over span.
abbrev pub exact_of : Scale → ℤ → ℤ
exact_of scale time = (time -ℤ scale.first) *ℤ pos scale.wide

-- twice the span
abbrev pub twice_span : Scale → ℤ
twice_span scale = span_of scale +ℤ span_of scale

-- How far from where the stretch begins a time stands, in pixels: its exact place and half a pixel, rounded down. Both
-- parts of the quotient are taken twice, so that they are whole numbers.
abbrev pub pixels_of : Scale → ℤ → ℤ
pixels_of scale time =
    int_div_euclid (exact_of scale time +ℤ exact_of scale time +ℤ span_of scale) (twice_span scale)

-- A number of pixels is the one nearest to the exact place of a time: at most half a pixel above it, and less than half
-- a pixel below it, all taken twice span times.
pub record IsNearest (scale : Scale) (time pixels : ℤ) : Type 0 where
  pub above : (pixels *ℤ twice_span scale) ≤ℤ (exact_of scale time +ℤ exact_of scale time +ℤ span_of scale)
  pub below : (exact_of scale time +ℤ exact_of scale time) <ℤ (pixels *ℤ twice_span scale +ℤ span_of scale)

-- the time of the stretch nearest to a time: itself, or where the stretch begins or ends
abbrev pub shown_time : Scale → ℤ → ℤ
shown_time scale time = int_min (int_max time scale.first) scale.last

-- where a time stands, in pixels from the left
abbrev pub place_of : Scale → ℤ → ℕ
place_of scale time = 272 + unsigned_abs (pixels_of scale (shown_time scale time))
