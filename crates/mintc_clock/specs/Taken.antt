-- What the phases so far have taken, so that no later one may have it again.
use Rattle.std.specs.Prelude.{◌≡◌, ℕ, Bool, true, false, ◌||◌, if◌then◌else◌, List, [], ◌∷◌}
use Rattle.std.specs.Bool.{beq}
use Rattle.mintc_text_names.specs.Names.{is_among, with_name}
use Rattle.mintc_clock.specs.declared.clock.PhaseDef.{PhaseDef}
use Rattle.mintc_clock.specs.declared.clashing.Taken.{Taken}
use Rattle.mintc_clock.specs.ClockOf.{names_of}

-- whether a phase's port is taken at its level, and whether its name or its port is
abbrev pub has_port : Taken → PhaseDef → Bool
has_port taken p = is_among p.port (if p.high then taken.highs else taken.lows)

-- whether its name or its port is taken
abbrev pub has_some : Taken → PhaseDef → Bool
has_some taken p = is_among p.name taken.names || has_port taken p

-- what is taken, with what a phase has
abbrev pub with_port : Taken → PhaseDef → Taken
with_port taken p = record {
  names = taken.names;
  highs = if p.high then with_name taken.highs p.port else taken.highs;
  lows = if p.high then taken.lows else with_name taken.lows p.port;
}

-- what is taken, with the name and the port of a phase
abbrev pub with_phase : Taken → PhaseDef → Taken
with_phase taken p = with_port (record { names = with_name taken.names p.name; highs = taken.highs; lows = taken.lows })
    p

-- the ports of the phases with a level
abbrev pub ports_at : Bool → List PhaseDef → List (List ℕ)
ports_at level [] = []
ports_at level (p ∷ ps) = if beq level p.high then p.port ∷ ports_at level ps else ports_at level ps

-- what some phases have taken
pub record AreTaken (ps : List PhaseDef) (taken : Taken) : Type 0 where
  pub names : taken.names ≡ names_of ps
  pub highs : taken.highs ≡ ports_at true ps
  pub lows : taken.lows ≡ ports_at false ps
