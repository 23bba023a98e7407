-- The names of pins.
use Rattle.std.specs.Prelude.{ℕ, Bool, true, not, ◌&&◌, List, [], ◌∷◌, length, nat_le, bytes_eq}
use Rattle.std.specs.List.{list_any, list_all}
use Rattle.mintc_toml.specs.Rules.{is_name}

-- no name comes twice
abbrev pub is_distinct : List (List ℕ) → Bool
is_distinct [] = true
is_distinct (name ∷ names) = not (list_any (bytes_eq name) names) && is_distinct names

-- so many names, each in form
abbrev pub are_names : ℕ → ℕ → List (List ℕ) → Bool
are_names least most names = (nat_le least (length names) && nat_le (length names) most) && list_all is_name names
