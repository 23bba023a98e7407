-- the bytes of a name, by where it keeps them
use Rattle.std.specs.Prelude.{ℕ, ◌≤◌, List, take}
use Rattle.mintc_text.specs.declared.small.TheConstants.{FEW}
use Rattle.mintc_text.specs.declared.small.Kept.{Kept}
use Rattle.mintc_text.specs.declared.small.Kept.TheVariants.{Few, Many}

abbrev pub bytes_of : Kept → List ℕ
bytes_of (Few count bytes) = take count bytes
bytes_of (Many bytes) = bytes.value.items

abbrev pub IsKept : Kept → Type 0
IsKept (Few count bytes) = count ≤ FEW
IsKept (Many bytes) = Unit {0}
