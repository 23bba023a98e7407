-- The fourth and the fifth test in words: an element whose departure is not what the others make it, and one whose
-- data comes too late.
use Rattle.std.specs.Prelude.{◌≡◌, ◌<◌, ◌==◌, ℕ, ℤ, pos, negsuc, ◌≤ℤ◌, ◌-ℤ◌, Bool, false, not, if◌then◌else◌, int_lt}
use Rattle.std.specs.Prelude.{Option, Some, None, List, [], ◌∷◌, ◌++◌, codes, length, map, filter, take, slice_index_or}
use Rattle.std.specs.Int.{int_max}
use Rattle.std.specs.Ordering.{int_eq}
use Rattle.mintc_text.specs.Lines.{ended}
use Rattle.mintc_timing.specs.declared.clocking.Schedule.{Schedule}
use Rattle.mintc_timing.specs.Extremes.{greatest_of}
use Rattle.mintc_timing.specs.Design.{Timing, element_at, element_count}
use Rattle.mintc_timing.specs.Departures.{departure, late_arrival, late_departure}
use Rattle.mintc_timing.specs.Violations.{elements_of, setup_amount}
use Rattle.mintcx_amounts.specs.declared.unit.Unit.{Unit}
use Rattle.mintcx_judgements.specs.Data.{element_in_words}
use Rattle.mintcx_judgements.specs.Shown.{timed, measured}
use Rattle.mintcx_judgements.specs.Sources.{setup_of}

-- the first of some numbers that passes a test
abbrev pub first_where : (ℕ → Bool) → List ℕ → Option ℕ
first_where test [] = None
first_where test (n ∷ ns) = if test n then Some n else first_where test ns

-- whether the departure of an element is not what the others make it
abbrev pub is_inexact : Timing → Schedule → List ℤ → ℕ → Bool
is_inexact t s d l = not (int_eq (departure d l) (late_departure t s d l))

-- the first element whose departure is wrong
abbrev pub first_inexact : Timing → Schedule → List ℤ → Option ℕ
first_inexact t s d = first_where (is_inexact t s d) (elements_of t.flat)

-- what the others make the departure of an element, and what the certificate says
abbrev pub inexact_line : Timing → Schedule → List ℤ → Unit → ℕ → List ℕ
inexact_line t s d unit l =
    codes "  " ++ element_in_words t.flat l ++ timed unit s (codes " departs at ") (late_departure t s d l)
    ++ timed unit s (codes " by the others, the certificate says ") (departure d l)

-- that of an element, where there is one
abbrev pub inexact_text : Timing → Schedule → List ℤ → Unit → Option ℕ → List ℕ
inexact_text t s d unit None = []
inexact_text t s d unit (Some l) = ended (inexact_line t s d unit l)

-- that of the first element whose departure is wrong
abbrev pub departures_text : Timing → Schedule → List ℤ → Unit → List ℕ
departures_text t s d unit = inexact_text t s d unit (first_inexact t s d)

-- an amount of a setup, so that nothing overflows
abbrev pub IsLate : ℤ → Type 0
IsLate x = (negsuc 9999999999999999999 ≤ℤ x) × (x ≤ℤ pos 10000000000000000000)

-- whether an amount is above 0
abbrev pub is_above : Option ℤ → Bool
is_above None = false
is_above (Some amount) = int_lt (pos 0) amount

-- whether an element's data comes too late
abbrev pub is_tardy : Timing → Schedule → List ℤ → ℕ → Bool
is_tardy t s d l = is_above (setup_amount t s d l)

-- the first element whose data comes too late
abbrev pub first_tardy : Timing → Schedule → List ℤ → Option ℕ
first_tardy t s d = first_where (is_tardy t s d) (elements_of t.flat)

-- the words for when the data of an element is there: that of a flop comes, that of a latch departs
abbrev pub there_words : Bool → List ℕ
there_words flop = if flop then codes " gets its data at " else codes " departs at "

-- when it is there, for a setup that is missed by this amount, counted from the start of the element's phase
abbrev pub there_at : Timing → Schedule → List ℤ → ℕ → ℤ → ℤ
there_at t s d l amount =
    if (element_at t.flat l).flop then amount -ℤ setup_of t.flat s l else int_max (pos 0) (departure d l)

-- when an element's data is there, and by how much that is too late for its setup
abbrev pub tardy_line : Timing → Schedule → List ℤ → Unit → ℕ → ℤ → List ℕ
tardy_line t s d unit l amount =
    codes "  " ++ element_in_words t.flat l
    ++ timed unit s (there_words (element_at t.flat l).flop) (there_at t s d l amount)
    ++ measured unit s (codes ", ") amount
    ++ timed unit s (codes " too late for its setup of ") (setup_of t.flat s l)

-- that of an element, for the amount of its setup
abbrev pub tardy_text : Timing → Schedule → List ℤ → Unit → ℕ → Option ℤ → List ℕ
tardy_text t s d unit l None = []
tardy_text t s d unit l (Some amount) = ended (tardy_line t s d unit l amount)

-- that of an element, where there is one
abbrev pub late_text : Timing → Schedule → List ℤ → Unit → Option ℕ → List ℕ
late_text t s d unit None = []
late_text t s d unit (Some l) = tardy_text t s d unit l (setup_amount t s d l)

-- that of the first element whose data comes too late
abbrev pub setups_text : Timing → Schedule → List ℤ → Unit → List ℕ
setups_text t s d unit = late_text t s d unit (first_tardy t s d)

-- For each element this is, of the first k pairs, the last arrival at it, where there is any.
pub record AreLastArrivals (t : Timing) (s : Schedule) (d : List ℤ) (k : ℕ) (found : List (Option ℤ)) : Type 0 where
  pub count : length found ≡ element_count t.flat
  pub each : (l : ℕ) → l < element_count t.flat →
      slice_index_or found l None
      ≡ greatest_of (map (late_arrival t.flat s d) (filter (λ p. p.to == l) (take k t.pairs)))
