-- When data leaves, comes and is wanted, and which data comes last or first.
use Rattle.std.specs.Prelude.{◌≡◌, ◌<◌, ◌==◌, ℕ, ℤ, pos, neg_ℤ, ◌+ℤ◌, ◌-ℤ◌, ◌*ℤ◌, if◌then◌else◌, int_lt, List, length}
use Rattle.std.specs.Prelude.{Option, Some, None, slice_index_or}
use Rattle.std.specs.Int.{int_max}
use Rattle.std.specs.List.{fold, range_with_len}
use Rattle.mintc_timing.specs.declared.clocking.Schedule.{Schedule}
use Rattle.mintc_timing.specs.Design.{Design, Timing, element_at, element_count, phase_of, pair_at}
use Rattle.mintc_timing.specs.Clocking.{start_of, end_of, crosses_of}
use Rattle.mintc_timing.specs.Departures.{departure}
use Rattle.mintcx_frame.specs.Names.{element_name}
use Rattle.mintcx_judgements.specs.declared.causes.Sought.{Sought}
use Rattle.mintcx_judgements.specs.declared.causes.Sought.TheVariants.{Last, First}

-- All times are in femtoseconds times the schedule's denominator. Pairs go by their numbers. A departure is of each
-- element, counted from the start of its phase.

-- the name of the element from which a pair's data comes
abbrev pub from_of : Timing → ℕ → List ℕ
from_of t n = element_name t.flat (pair_at t n).from

-- when data leaves the first element of a pair, counted from time 0
abbrev pub leaving : Timing → Schedule → List ℤ → ℕ → ℤ
leaving t s d n = start_of s (phase_of t.flat (pair_at t n).from) +ℤ departure d (pair_at t n).from

-- how long it takes to the second element at the most
abbrev pub longest : Timing → Schedule → ℕ → ℤ
longest t s n = ((element_at t.flat (pair_at t n).from).dq_max +ℤ (pair_at t n).max) *ℤ s.den

-- the same at the least
abbrev pub shortest : Timing → Schedule → ℕ → ℤ
shortest t s n = ((element_at t.flat (pair_at t n).from).dq_min +ℤ (pair_at t n).min) *ℤ s.den

-- the cycles, none or one, until the phase of the second element in which the data is caught
abbrev pub turning : Timing → Schedule → ℕ → ℤ
turning t s n = pos (crosses_of (phase_of t.flat (pair_at t n).from) (phase_of t.flat (pair_at t n).to)) *ℤ s.cycle

-- when the data of a pair comes, counted from the beginning of the cycle in which it is caught
abbrev pub coming : Timing → Schedule → List ℤ → (ℕ → ℤ) → ℕ → ℤ
coming t s d travel n = leaving t s d n +ℤ travel n -ℤ turning t s n

-- the same at the latest
abbrev pub coming_late : Timing → Schedule → List ℤ → ℕ → ℤ
coming_late t s d n = coming t s d (longest t s) n

-- the same at the earliest
abbrev pub coming_early : Timing → Schedule → List ℤ → ℕ → ℤ
coming_early t s d n = coming t s d (shortest t s) n

-- of two pairs, the second where its number is the greater, else the first
abbrev pub greater_by : (ℕ → ℤ) → Option ℕ → ℕ → Option ℕ
greater_by time None n = Some n
greater_by time (Some best) n = if int_lt (time best) (time n) then Some n else Some best

-- of the pairs into an element, the first of those with the greatest number
abbrev pub greatest_into : Timing → (ℕ → ℤ) → ℕ → List ℕ → Option ℕ
greatest_into t time l numbers =
    fold (λ best n. if (pair_at t n).to == l then greater_by time best n else best) None numbers

-- the numbers of all pairs
abbrev pub numbers_of : Timing → List ℕ
numbers_of t = range_with_len 0 (length t.pairs)

-- the number by which the data that comes last, or first, is the greatest
abbrev pub number_by : Sought → Timing → Schedule → List ℤ → ℕ → ℤ
number_by Last t s d n = coming_late t s d n
number_by First t s d n = neg_ℤ (coming_early t s d n)

-- the pair into an element whose data comes last
abbrev pub latest_into : Timing → Schedule → List ℤ → ℕ → Option ℕ
latest_into t s d l = greatest_into t (number_by Last t s d) l (numbers_of t)

-- the pair into an element whose data comes first
abbrev pub earliest_into : Timing → Schedule → List ℤ → ℕ → Option ℕ
earliest_into t s d l = greatest_into t (number_by First t s d) l (numbers_of t)

-- For each element this is, of the first k pairs, the one into it with the greatest number.
pub record AreGreatest (t : Timing) (time : ℕ → ℤ) (k : ℕ) (found : List (Option ℕ)) : Type 0 where
  pub count : length found ≡ element_count t.flat
  pub each : (l : ℕ) → l < element_count t.flat →
      slice_index_or found l None ≡ greatest_into t time l (range_with_len 0 k)
  pub inside : (l n : ℕ) → l < element_count t.flat → slice_index_or found l None ≡ Some n → n < length t.pairs

-- the edge of its phase by which the data of an element has to be there: at a flop the start, at a latch the end
abbrev pub edge_of : Design → Schedule → ℕ → ℤ
edge_of design s l = if (element_at design l).flop then start_of s (phase_of design l) else end_of s (phase_of design l)

-- how long before it the data has to be there
abbrev pub setup_of : Design → Schedule → ℕ → ℤ
setup_of design s l = (element_at design l).setup *ℤ s.den

-- how long after it the data has to stay
abbrev pub hold_of : Design → Schedule → ℕ → ℤ
hold_of design s l = (element_at design l).hold *ℤ s.den

-- when the data of a latch is there and the latch open
abbrev pub there : Design → Schedule → List ℤ → ℕ → ℤ
there design s d l = start_of s (phase_of design l) +ℤ int_max (pos 0) (departure d l)
