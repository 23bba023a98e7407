-- The ranges of a picture's times and heights.
use Rattle.std.specs.Prelude.{ℕ, ◌≤◌, ℤ, pos, negsuc, ◌≤ℤ◌}

-- a time that is drawn, a numerator over the schedule's denominator
abbrev pub IsDrawnTime : ℤ → Type 0
IsDrawnTime time = (negsuc 999999999999999999999 ≤ℤ time) × (time ≤ℤ pos 1000000000000000000000)

-- the number of a cycle, counted from 0, that a drawn time may be in
abbrev pub IsLap : ℤ → Type 0
IsLap lap = (negsuc 99999999999999999999999 ≤ℤ lap) × (lap ≤ℤ pos 100000000000000000000000)

-- so many cycles of a row: none, one before the first, or as many as a chain has at the most
abbrev pub IsLaps : ℤ → Type 0
IsLaps laps = (negsuc 0 ≤ℤ laps) × (laps ≤ℤ pos 1000000)

-- a cycle time that is drawn: no cycle time of 0 is
abbrev pub IsCycle : ℤ → Type 0
IsCycle cycle = (pos 1 ≤ℤ cycle) × (cycle ≤ℤ pos 100000000000000)

-- a height in a picture of a few rows, in pixels
abbrev pub IsHeight : ℕ → Type 0
IsHeight y = y ≤ 4000

-- a place in a picture, in pixels from the left
abbrev pub IsAcross : ℕ → Type 0
IsAcross x = (272 ≤ x) × (x ≤ 2672)

-- a time that is divided, and a number that comes of it
abbrev pub IsQuotient : ℤ → Type 0
IsQuotient x = (negsuc 49999999999999999999999 ≤ℤ x) × (x ≤ℤ pos 50000000000000000000000)
