-- Times in words.
use Rattle.std.specs.Prelude.{ℕ, ℤ, pos, negsuc, ◌≤ℤ◌, List, ◌++◌}
use Rattle.mintc_fraction.specs.Ratio.{over}
use Rattle.mintc_timing.specs.declared.clocking.Schedule.{Schedule}
use Rattle.mintcx_amounts.specs.declared.unit.Unit.{Unit}
use Rattle.mintcx_amounts.specs.Amounts.{amount_text}
use Rattle.mintcx_frame.specs.Ends.{time_text}

-- words, and behind them a time over the schedule's denominator, without its unit
abbrev pub timed : Unit → Schedule → List ℕ → ℤ → List ℕ
timed unit s said time = said ++ amount_text unit (over time s.den)

-- the same with its unit
abbrev pub measured : Unit → Schedule → List ℕ → ℤ → List ℕ
measured unit s said time = said ++ time_text unit (over time s.den)

-- words, a name and further words
abbrev pub about : List ℕ → List ℕ → List ℕ → List ℕ
about before name after = before ++ name ++ after

-- Times of a few sizes, so that nothing overflows: a departure.
abbrev pub IsTerm : ℤ → Type 0
IsTerm x = (negsuc 9999999999999999999 ≤ℤ x) × (x ≤ℤ pos 10000000000000000000)

-- a departure with the start of its phase
abbrev pub IsLeaving : ℤ → Type 0
IsLeaving x = (negsuc 10999999999999999999 ≤ℤ x) × (x ≤ℤ pos 11000000000000000000)

-- when data comes
abbrev pub IsComing : ℤ → Type 0
IsComing x = (negsuc 11999999999999999999 ≤ℤ x) × (x ≤ℤ pos 12000000000000000000)

-- a sum of a few such times
abbrev pub IsLong : ℤ → Type 0
IsLong x = (negsuc 99999999999999999999 ≤ℤ x) × (x ≤ℤ pos 100000000000000000000)

-- an edge of a phase, which is less than two cycles
abbrev pub IsEdge : ℤ → Type 0
IsEdge x = (pos 0 ≤ℤ x) × (x ≤ℤ pos 200000000000000)
