-- What is said of a cell of the clock that leads to data.
use Rattle.std.specs.Prelude.{◌==◌, ℕ, List, ◌++◌, codes, decimal, if◌then◌else◌}
use Rattle.mintcx_warnings.specs.declared.said.Said.{Said}
use Rattle.mintcx_warnings.specs.Warnings.{quoted}

-- what is left out of so many paths
abbrev pub data_rest : ℕ → List ℕ
data_rest count = if count == 1 then codes " path of it is left out" else codes " paths of it are left out"

-- which cell leads to data, and how often
abbrev pub data_what : List ℕ → ℕ → List ℕ
data_what cell count =
    codes "clock cell " ++ quoted cell ++ codes " leads to data: " ++ decimal count ++ data_rest count

-- where it does: by which net, and into which pin of which instance
abbrev pub data_why : List ℕ → List ℕ → List ℕ → List ℕ
data_why net pin instance =
    codes "its output " ++ quoted net ++ codes " enters pin " ++ pin ++ codes " of " ++ quoted instance

-- what helps
abbrev pub data_help : List ℕ
data_help = codes "keep the cells of the clock out of the data: dont_use in the library that abc gets"

-- what is said of a cell of this name that leads to so many data pins, the first of them this one
abbrev pub data_said : List ℕ → ℕ → List ℕ → List ℕ → List ℕ → Said
data_said cell count net pin instance = record {
  what = data_what cell count;
  label = codes " no data goes through a cell of kind `clock`";
  why = data_why net pin instance;
  help = data_help;
}
