-- Files that are made.
use Rattle.std.specs.Prelude.{◌≡◌, ℕ, List, ◌∷◌, Option, Some, None}
use Rattle.mintc_text.specs.Outside.{Files}

-- Where the files that were made are told, one more was made, of this name and these bytes.
abbrev pub Makes : Option Files → Option Files → List ℕ → List ℕ → Type 0
Makes None now name bytes = now ≡ None
Makes (Some before) now name bytes = now ≡ Some ((name, bytes) ∷ before)
