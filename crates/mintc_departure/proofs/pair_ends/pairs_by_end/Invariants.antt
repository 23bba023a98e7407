use Rattle.std.proofs.Common.{length, get_or}
use Rattle.mintc_adjacency.specs.Adjacency.{AreLinked}
use Rattle.mintc_timing.specs.Design.{no_pair}
use Rattle.mintc_departure.specs.PairEnds.{end_of}
use Rattle.mintc_departure.proofs.pair_ends.pairs_by_end.Given as goal

-- the pairs so far are linked
abbrev pub invariant-loop-number : goal.invariant-loop-number
invariant-loop-number l = AreLinked (λ n. end_of l.«end» (get_or l.pairs n no_pair)) l.elements (length l.pairs) l.number l.by_end
