-- the early departures: the sizes of sums, and what rounds and sweeps keep
use Rattle.std.specs.Prelude.{◌≡◌, ◌<◌, ◌≤◌, ◌^◌, ℕ, ℤ, pos, negsuc, ◌+ℤ◌, ◌*ℤ◌, ◌≤ℤ◌, List, length, Option, Some, None}
use Rattle.mintc_timing.specs.declared.clocking.Schedule.{Schedule}
use Rattle.mintc_timing.specs.Design.{Design, Timing, element_at, element_count}
use Rattle.mintc_timing.specs.Departures.{departure, early_departure, AreExactEarly, AreAtMost}
use Rattle.mintc_bitset.specs.BitSet.{IsIn, room}
use Rattle.mintc_departure.specs.declared.arrivals.TheConstants.{NEVER}
use Rattle.mintc_departure.specs.Settled.{IsSum}
use Rattle.mintc_departure.specs.Travels.{early_start_of}

-- a departure with the delay of one pair added
abbrev pub IsArrivalSum : ℤ → Type 0
IsArrivalSum x = (negsuc 8109999999999999999 ≤ℤ x) × (x ≤ℤ pos 8110000000000000000)

-- v stands for the earliest arrival, if any comes
abbrev pub IsFirst : Option ℤ → ℤ → Type 0
IsFirst None v = v ≡ NEVER
IsFirst (Some a) v = (v ≡ a) × IsArrivalSum a

-- A number for each element, each a sum of few delays.
pub record AreSums (design : Design) (d : List ℤ) : Type 0 where
  pub count : length d ≡ element_count design
  pub each : (l : ℕ) → l < element_count design → IsSum (departure d l)

-- What each round, and each write, of the early departures keeps: they rise from where no data reaches an element,
-- are at most every solution, and leave no output later than the late departures do.
pub record AreRising (t : Timing) (s : Schedule) (late d : List ℤ) : Type 0 where
  pub count : length d ≡ element_count t.flat
  pub above : (l : ℕ) → l < element_count t.flat → early_start_of t.flat s l ≤ℤ departure d l
  pub rises : (l : ℕ) → l < element_count t.flat → departure d l ≤ℤ early_departure t s d l
  pub least : (e : List ℤ) → AreExactEarly t s e → AreAtMost t.flat d e
  pub before : (l : ℕ) → l < element_count t.flat →
      (departure d l +ℤ (element_at t.flat l).dq_min *ℤ s.den) ≤ℤ
      (departure late l +ℤ (element_at t.flat l).dq_max *ℤ s.den)

-- What each sweep over the stale elements keeps: the departures rise, and an element that isn't stale departs when the
-- others make it depart.
pub record AreSwept (t : Timing) (s : Schedule) (late d : List ℤ) (stale : List ℕ) : Type 0 where
  pub rising : AreRising t s late d
  pub met : (l : ℕ) → l < element_count t.flat → (IsIn stale l → ⊥) → departure d l ≡ early_departure t s d l
  pub places : element_count t.flat ≤ room stale
  pub few : length stale ≤ 2 ^ 32
