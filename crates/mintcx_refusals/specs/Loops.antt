-- The arcs of a loop, in the order in which a message shows them.
use Rattle.std.specs.Prelude.{ℕ, List, [], ◌∷◌, ◌++◌}

-- the arcs from the second one on, and the first one last
abbrev pub from_second : List ℕ → List ℕ
from_second [] = []
from_second (first ∷ rest) = rest ++ first ∷ []
