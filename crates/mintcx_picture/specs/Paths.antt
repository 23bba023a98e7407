-- The steps of paths in writing.
use Rattle.std.specs.Prelude.{ℕ, List, ◌++◌, flat_map, codes, decimal}
use Rattle.mintcx_picture.specs.declared.paths.Step.{Step}
use Rattle.mintcx_picture.specs.declared.paths.Step.TheVariants.{Move, Line, Across, Down, Close}

-- a step to a place, by its letter
abbrev pub place_text : List ℕ → ℕ → ℕ → List ℕ
place_text letter x y = letter ++ decimal x ++ codes " " ++ decimal y

-- a step along an axis, by its letter
abbrev pub line_text : List ℕ → ℕ → List ℕ
line_text letter to = letter ++ decimal to

-- a step
abbrev pub step_text : Step → List ℕ
step_text (Move x y) = place_text (codes "M") x y
step_text (Line x y) = place_text (codes "L") x y
step_text (Across x) = line_text (codes "H") x
step_text (Down y) = line_text (codes "V") y
step_text Close = codes "Z"

-- the steps of a path
abbrev pub steps_text : List Step → List ℕ
steps_text steps = flat_map step_text steps
