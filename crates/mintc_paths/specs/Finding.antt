-- What a path is searched by.
use Rattle.std.specs.Prelude.{◌≡◌, ℕ, ℤ, List, Contains}
use Rattle.mintc_timing.specs.declared.parts.Pair.{Pair}
use Rattle.mintc_timing.specs.declared.parts.TimingArc.{TimingArc}
use Rattle.mintc_graph.specs.Rings.{total}
use Rattle.mintc_timing.specs.Paths.{IsPath, input_of}
use Rattle.mintc_paths.specs.declared.trace.Extreme.{Extreme}
use Rattle.mintc_paths.specs.Trace.{extreme_of, weight_of}

-- Some pair of the list is of these two elements, and has this greatest or least delay, in femtoseconds.
abbrev pub IsDelayOf : Extreme → List Pair → ℕ → ℕ → ℤ → Type 0
IsDelayOf extreme pairs from to delay = (pair : Pair) × Contains pairs pair × (pair.from ≡ from) × (pair.to ≡ to)
    × (extreme_of extreme pair ≡ delay)

-- The path is a listed one from one element to another, and its delays have this sum.
abbrev pub IsListedWith : Extreme → List TimingArc → ℕ → ℕ → ℤ → List ℕ → Type 0
IsListedWith extreme arcs from to sum path = IsPath arcs from path (input_of to)
    × (total (weight_of extreme arcs) path ≡ sum)
