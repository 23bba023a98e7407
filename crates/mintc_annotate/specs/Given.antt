-- Clocks and delays that texts give.
use Rattle.std.specs.Prelude.{◌≡◌, ◌≤◌, ℕ, List, length, Ok}
use Rattle.mintc_text.specs.declared.limits.TheConstants.{MOST_BYTES}
use Rattle.mintc_clock.specs.declared.clock.Clock.{Clock}
use Rattle.mintc_clock.specs.ClockOf.{IsClock}
use Rattle.mintc_sdf.specs.declared.delays.Delay.{Delay}
use Rattle.mintc_sdf.specs.Texts.{delays_of}

-- the clock of some text that is no longer than a file may be
abbrev pub IsGivenClock : Clock → Type 0
IsGivenClock clock = (text : List ℕ) × (length text ≤ MOST_BYTES) × IsClock text clock

-- the delays of some such text
abbrev pub AreGivenDelays : List Delay → Type 0
AreGivenDelays delays = (text : List ℕ) × (length text ≤ MOST_BYTES) × (delays_of text ≡ Ok delays)
