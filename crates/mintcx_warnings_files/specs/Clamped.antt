-- What is written of delays below 0 that are taken as 0.
use Rattle.std.specs.Prelude.{◌≡◌, ◌⊎◌, ℕ, List, []}
use Rattle.std.specs.List.{AllZip, concat}
use Rattle.mintcx_warnings.specs.Clamped.{clamped_said}
use Rattle.mintcx_warnings_files.specs.declared.files.File.{File}
use Rattle.mintcx_warnings_files.specs.Written.{IsShownIn}

-- The warning of so many delays of so many numbers below 0 in a file, with the instances of the first and of the least
-- number, and its amount; or nothing. Which these are is in no definition.
abbrev pub IsOfClamped : File → List ℕ → Type 0
IsOfClamped file text = (text ≡ []) ⊎ ((delays : ℕ) × (numbers : ℕ) × (first : List ℕ) × (least : List ℕ)
    × (amount : List ℕ) × IsShownIn file (clamped_said delays numbers first least amount) text)

-- the same of several files, one behind the other
abbrev pub AreOfClamped : List File → List ℕ → Type 0
AreOfClamped files text = (texts : List (List ℕ)) × AllZip IsOfClamped files texts × (text ≡ concat texts)
