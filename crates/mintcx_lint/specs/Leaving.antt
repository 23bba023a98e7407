-- Ports that are found to be left out by sets of names.
use Rattle.std.specs.Prelude.{◌≡◌, ℕ, Bool, not, ◌||◌, List, ◌∷◌}
use Rattle.std.specs.List.{list_any}
use Rattle.mintc_clock.specs.declared.clock.PhaseDef.{PhaseDef}
use Rattle.mintc_flatten_hierarchy.specs.declared.hierarchy.TopPort.{TopPort}
use Rattle.mintc_text_names.specs.Names.{is_among}
use Rattle.mintcx_lint.specs.Ports.{is_on}

-- whether no phase comes on a port, and it isn't among the names of listed ports
abbrev pub is_left : List PhaseDef → List (List ℕ) → TopPort → Bool
is_left phases listed port = not (list_any (is_on port.name) phases || is_among port.name listed)

-- the first of some ports that are left out has this name
abbrev pub IsFirst : List TopPort → List ℕ → Type 0
IsFirst left name = (first : TopPort) × (later : List TopPort) × (left ≡ first ∷ later) × (name ≡ first.name)
