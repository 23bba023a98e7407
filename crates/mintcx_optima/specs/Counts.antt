-- Numbers of things, and the sums of a chain in words.
use Rattle.std.specs.Prelude.{ℕ, ℤ, pos, ◌==◌, if◌then◌else◌, List, [], ◌∷◌, ◌++◌, codes, decimal}
use Rattle.mintc_fraction.specs.Ratio.{over}
use Rattle.mintcx_amounts.specs.declared.unit.Unit.{Unit}
use Rattle.mintcx_frame.specs.Ends.{time_text}

-- what makes a word that of so many things
abbrev pub plural : ℕ → List ℕ
plural n = if n == 1 then [] else codes "s"

-- so many of a thing, by its word for one
abbrev pub counted : ℕ → List ℕ → List ℕ
counted n word = decimal n ++ codes " " ++ word ++ plural n

-- the line that says how long a chain takes, in how many cycles
abbrev pub decided_text : ℕ → ℤ → ℕ → Unit → List ℕ
decided_text count delay cycles unit = codes "decided by a chain of " ++ counted count (codes "constraint")
    ++ codes " that takes " ++ time_text unit (over delay (pos 1)) ++ codes " in " ++ counted cycles (codes "cycle")
    ++ codes ":" ++ 10 ∷ []
