-- What a clock names, as it is kept.
use Rattle.std.specs.Prelude.{◌≡◌, ◌<◌, ℕ, min, true, false, List, length, None}
use Rattle.mintc_text.specs.declared.limits.TheConstants.{MOST_TOLD}
use Rattle.mintc_flatten_hierarchy.specs.declared.hierarchy.TopPort.{TopPort}
use Rattle.mintc_clock.specs.declared.clock.Clock.{Clock}
use Rattle.mintc_annotate.specs.declared.clocked.Clocked.{Clocked}
use Rattle.mintc_annotate.specs.ClockPorts.{has_ports_in, first_false}
use Rattle.mintc_annotate.specs.Phases.{spots_of}
use Rattle.mintc_annotate.specs.Made.{bits_in}

-- All ports are there; where the phases stand, and how many bits are listed, up to the greatest count that is told.
pub record AreClocked (names : List (List ℕ)) (ports : List TopPort) (clock : Clock) (c : Clocked) : Type 0 where
  pub there : first_false (has_ports_in names ports clock) ≡ None
  pub spots : c.spots.items ≡ spots_of names ports clock.phases
  pub few : length c.spots.items < 4294967295
  pub inputs : c.inputs ≡ min (length (bits_in ports false clock.inputs)) MOST_TOLD
  pub outputs : c.outputs ≡ min (length (bits_in ports true clock.outputs)) MOST_TOLD
