-- what the search for late departures leaves
use Rattle.std.specs.Prelude.{ℤ, pos, negsuc, ◌≤ℤ◌, List, All}
use Rattle.mintc_constraints.specs.Rooms.{Space}
use Rattle.mintc_timing.specs.declared.clocking.Schedule.{Schedule}
use Rattle.mintc_timing.specs.Design.{Timing}
use Rattle.mintc_timing.specs.Departures.{AreExact, AreLate}
use Rattle.mintc_timing.specs.Violations.{HasLoop}
use Rattle.mintc_departure.specs.declared.settling.Settling.{Settling}
use Rattle.mintc_departure.specs.declared.settling.Settling.TheVariants.{Settled, Loop}

-- A departure, which is a sum over at most one pair for each element, is from -8.1 * 10^18 to 8.1 * 10^18, which 64
-- bits hold.
abbrev pub IsSum : ℤ → Type 0
IsSum x = (negsuc 8099999999999999999 ≤ℤ x) × (x ≤ℤ pos 8100000000000000000)

-- What the search for late departures leaves in a room: these departures, or the pairs of a loop and no more, and
-- then no departures are exact.
abbrev pub HasSettled : Timing → Schedule → Space → Settling → Type 0
HasSettled t s room Settled = AreLate t s room.late × All IsSum room.late
HasSettled t s room Loop = ((amount : ℤ) × HasLoop t s room.chain amount) × ((d : List ℤ) → AreExact t s d → ⊥)
