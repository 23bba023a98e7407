-- Which numbers are explained, and what an explanation begins with.
use Rattle.std.specs.Prelude.{ℕ, List, ◌++◌, ◌≡◌, ◌≤◌, ◌≢◌, ◌⊎◌, codes, decimal, length, take}

-- a refusal has this number: they go from 1 to 22, and none has 20
abbrev pub IsRefusalNumber : ℕ → Type 0
IsRefusalNumber number = (1 ≤ number) × (number ≤ 22) × (number ≢ 20)

-- a text begins with another one
abbrev pub BeginsWith : List ℕ → List ℕ → Type 0
BeginsWith front text = take (length front) text ≡ front

-- a text begins with the number, a colon and a blank
abbrev pub IsOfNumber : ℕ → List ℕ → Type 0
IsOfNumber number text = BeginsWith (decimal number ++ codes ": ") text

-- a topic names a refusal by the numeral of its number, alone or as in `error[8]`
abbrev pub Names : List ℕ → ℕ → Type 0
Names topic number = (topic ≡ decimal number) ⊎ (topic ≡ codes "error[" ++ (decimal number ++ codes "]"))

-- a topic is the name of a warning that is explained
abbrev pub NamesWarning : List ℕ → Type 0
NamesWarning topic = (topic ≡ codes "outputs") ⊎ (topic ≡ codes "same-phase")

-- a topic is no such name
abbrev pub NamesNoWarning : List ℕ → Type 0
NamesNoWarning topic = (topic ≢ codes "outputs") × (topic ≢ codes "same-phase")

-- a page is that of the warning that a topic names: it begins with the name, a colon and a blank
abbrev pub IsWarningPage : List ℕ → List ℕ → Type 0
IsWarningPage topic page = NamesWarning topic × BeginsWith (topic ++ codes ": ") page
