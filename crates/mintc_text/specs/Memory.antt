-- Shelves and sinks in memory.
use Rattle.std.specs.Prelude.{ℕ, ◌+◌, ◌-◌, ◌≤◌, ◌==◌, ◌&&◌, not, nat_le, List, length, Option, Some, None, Bool, false}
use Rattle.std.specs.Prelude.{if◌then◌else◌, min, Contains}
use Rattle.mintc_text.specs.Outside.{Files}

-- what a shelf in memory is: its files, the numbers of the calls that fail, and its two counts
pub record ShelfState : Type 0 where
  pub files : Files
  pub failing : List ℕ
  pub calls : ℕ
  pub faults : ℕ

-- No call from this number on is to fail.
abbrev pub IsSoundFrom : List ℕ → ℕ → Type 0
IsSoundFrom failing calls = (n : ℕ) → calls ≤ n → Contains failing n → ⊥

-- what a sink in memory is: the bytes taken, how many it has room for, the number of the failing call with how many
-- bytes that call takes, and its two counts
pub record SinkState : Type 0 where
  pub taken : List ℕ
  pub room : ℕ
  pub failing : Option (ℕ × ℕ)
  pub calls : ℕ
  pub faults : ℕ

-- The call with this number is to fail.
abbrev pub is_failing : Option (ℕ × ℕ) → ℕ → Bool
is_failing None call = false
is_failing (Some f) call = f.0 == call

-- how many of so many bytes the call with this number may take: all of them, or the failing call's number
abbrev pub allowed : Option (ℕ × ℕ) → ℕ → ℕ → ℕ
allowed None call count = count
allowed (Some f) call count = if f.0 == call then min f.1 count else count

-- how many of so many bytes a sink takes: those that are allowed and fit
abbrev pub share : SinkState → ℕ → ℕ
share s count = min (allowed s.failing s.calls count) (s.room - length s.taken)

-- A sink takes all of so many bytes.
abbrev pub takes_all : SinkState → ℕ → Bool
takes_all s count = not (is_failing s.failing s.calls) && nat_le (length s.taken + count) s.room
