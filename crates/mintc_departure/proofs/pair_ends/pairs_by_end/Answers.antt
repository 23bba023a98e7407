use Rattle.std.proofs.Common.{get_or, sym}
use Rattle.mintc_timing.specs.Design.{no_pair}
use Rattle.mintc_departure.specs.PairEnds.{end_of}
use Rattle.mintc_departure.proofs.pair_ends.pairs_by_end.Goals as goal

pub loop-number-preserved : goal.loop-number-preserved
loop-number-preserved c = c.add.ensures (λ n. end_of c.args.«end» (get_or c.args.pairs.now n no_pair)) (sym c.element_at.ensures) _ _ c.loop-number.invariant
