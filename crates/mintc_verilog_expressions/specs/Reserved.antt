-- How reserved words look.
use Rattle.std.specs.Prelude.{ℕ, ◌-◌, Bool, List, length, take}
use Rattle.std.specs.Char.{is_ascii_lowercase}
use Rattle.std.specs.List.{list_all}

-- all bytes of a word but the last are lower-case letters, as those of each reserved word are
abbrev pub looks_reserved : List ℕ → Bool
looks_reserved word = list_all is_ascii_lowercase (take (length word - 1) word)
