-- Places as numbers of inner bits.
use Rattle.std.specs.Prelude.{ℕ, ◌+◌, Option, List, map}
use Rattle.std.specs.Option.{option_map}

-- places, each counted from another one
abbrev pub moved : ℕ → List (Option ℕ) → List (Option ℕ)
moved first places = map (option_map (λ at. first + at)) places
