-- The clock of a design whose phases have names alone.
use Rattle.std.specs.Prelude.{ℕ, true, List, [], map, None}
use Rattle.mintc_clock.specs.declared.clock.Clock.{Clock}
use Rattle.mintc_clock.specs.declared.clock.PhaseDef.{PhaseDef}

-- a phase that is active while the port of its name is high
abbrev pub named_phase : List ℕ → PhaseDef
named_phase name = record { name = name; port = name; high = true }

-- the clock of these phases: no port is listed
abbrev pub named_clock : List (List ℕ) → Clock
named_clock names = record { top = None; phases = map named_phase names; bounds = []; inputs = []; outputs = [] }
