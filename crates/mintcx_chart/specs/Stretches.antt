-- Stretches of time that are shown.
use Rattle.std.specs.Prelude.{◌≡◌, ℤ, pos, ◌+ℤ◌, ◌-ℤ◌, ◌*ℤ◌, ◌≤ℤ◌, ◌<ℤ◌, ◌/◌, Bool, true, false, if◌then◌else◌}
use Rattle.std.specs.Prelude.{List, [], ◌∷◌, flat_map, Option, Some, None, unsigned_abs}
use Rattle.std.specs.Int.{int_max, int_min}
use Rattle.std.specs.List.{fold}
use Rattle.mintcx_picture.specs.declared.scale.Scale.{Scale}
use Rattle.mintcx_chart.specs.declared.lanes.Kind.{Kind}
use Rattle.mintcx_chart.specs.declared.lanes.Kind.TheVariants.{Clock}
use Rattle.mintcx_chart.specs.declared.lanes.Lane.{Lane}

-- whether a row is of a moment of the clock
abbrev pub is_clock : Kind → Bool
is_clock Clock = true
is_clock kind = false

-- when the phase of a row's element starts in its lap, and when it ends
abbrev pub opens_at : ℤ → Lane → ℤ
opens_at cycle lane = lane.start +ℤ lane.lap *ℤ cycle

abbrev pub closes_at : ℤ → Lane → ℤ
closes_at cycle lane = opens_at cycle lane +ℤ lane.width

-- the times that a row shows: when it is, and of an element when its phase starts and ends in its lap
abbrev pub lane_times : ℤ → Lane → List ℤ
lane_times cycle lane =
    lane.at ∷ (if is_clock lane.kind then [] else opens_at cycle lane ∷ closes_at cycle lane ∷ [])

-- the times that rows show
abbrev pub times_of : ℤ → List Lane → List ℤ
times_of cycle lanes = flat_map (lane_times cycle) lanes

-- the least of one time and others, and the greatest
abbrev pub least_of : ℤ → List ℤ → ℤ
least_of time others = fold int_min time others

abbrev pub greatest_of : ℤ → List ℤ → ℤ
greatest_of time others = fold int_max time others

-- how much more is shown on both sides of a stretch: a fortieth of it, rounded down, and a femtosecond
abbrev pub pad_of : ℤ → ℤ → ℤ → ℤ
pad_of den first last = pos (unsigned_abs (last -ℤ first) / 40) +ℤ den

-- when what is shown of a stretch begins and ends
abbrev pub shown_first : ℤ → ℤ → ℤ → ℤ
shown_first den first last = first -ℤ pad_of den first last

abbrev pub shown_last : ℤ → ℤ → ℤ → ℤ
shown_last den first last = last +ℤ pad_of den first last

-- how long that is
abbrev pub shown_span : ℤ → ℤ → ℤ → ℤ
shown_span den first last = shown_last den first last -ℤ shown_first den first last

-- A scale shows a stretch with some more on both sides, and no more than 80 cycles; there is none where it would.
abbrev pub IsShown : ℤ → ℤ → ℤ → ℤ → Option Scale → Type 0
IsShown den cycle first last (Some scale) = (scale.first ≡ shown_first den first last)
    × (scale.last ≡ shown_last den first last) × (shown_span den first last ≤ℤ (pos 80 *ℤ cycle))
IsShown den cycle first last None = (pos 80 *ℤ cycle) <ℤ shown_span den first last
