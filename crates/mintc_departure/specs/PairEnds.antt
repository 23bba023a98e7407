-- the pairs that have each element at one end
use Rattle.std.specs.Prelude.{◌≡◌, ◌<◌, ℕ, List, length, slice_index_or}
use Rattle.mintc_adjacency.specs.declared.adjacency.Adjacency.{Adjacency}
use Rattle.mintc_adjacency.specs.Adjacency.{AreChains}
use Rattle.mintc_timing.specs.declared.parts.Pair.{Pair}
use Rattle.mintc_timing.specs.Design.{no_pair}
use Rattle.mintc_departure.specs.declared.pair_ends.End.{End}
use Rattle.mintc_departure.specs.declared.pair_ends.End.TheVariants.{First, Second}

-- the element at an end of a pair
abbrev pub end_of : End → Pair → ℕ
end_of First pair = pair.from
end_of Second pair = pair.to

-- Each of so many elements has the pairs that have it at this end.
abbrev pub ArePairsByEnd : List Pair → End → ℕ → Adjacency → Type 0
ArePairsByEnd pairs side elements by_end =
    AreChains (λ n. end_of side (slice_index_or pairs n no_pair)) elements (length pairs) by_end
