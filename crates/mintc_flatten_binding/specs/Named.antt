-- The modules of a netlist by name.
use Rattle.std.specs.Prelude.{◌≡◌, ℕ, Option, List, length, slice_index, position, bytes_eq}
use Rattle.std.specs.Option.{option_map}
use Rattle.mintc_netlist.specs.declared.module.Module.{Module}
use Rattle.mintc_flatten_hierarchy.specs.Sources.{is_called}

-- the first module of a name
abbrev pub number_called : List Module → List ℕ → Option ℕ
number_called modules name = position (is_called name) modules

-- Each name of some modules stands once among the names, and the number beside it is that of its first module.
pub record IsIndex (names : List (List ℕ)) (numbers : List ℕ) (modules : List Module) : Type 0 where
  pub each : length numbers ≡ length names
  pub found : (name : List ℕ) → option_map (slice_index numbers) (position (bytes_eq name) names)
      ≡ number_called modules name
