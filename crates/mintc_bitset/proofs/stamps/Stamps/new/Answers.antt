use Rattle.mintc_bitset.proofs.Stamping.{begun_up}
use Rattle.std.proofs.Common.{arith}
use Rattle.mintc_bitset.proofs.stamps.Stamps.new.Goals as goal

pub returns : goal.returns
returns c = rw c.in_ok-stamps.ensures.items_if_clones_equal (begun_up 1 c.args.count (omega arith))
