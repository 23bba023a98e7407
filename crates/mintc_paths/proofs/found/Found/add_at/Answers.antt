use Rattle.std.proofs.Common.{◌∙◌, sym, w64}
use Rattle.std.proofs.lemmas.Int.{to_z-of_z}
use Rattle.mintc_lanes.specs.Lanes.{lane_at}
use Rattle.mintc_paths.proofs.SharedFinding.{IsAdded_some}
use Rattle.mintc_paths.proofs.found.Found.add_at.Goals as goal

pub returns-clause-found : goal.returns-clause-found
returns-clause-found c =
    IsAdded_some c.add.result c.args.from c.args.to (lane_at c.args.sums.now.greatest c.args.lane) (lane_at c.args.sums.now.least c.args.lane) c.in-Some.max c.in-Some-sum_in.min c.args.self.now c.add.new.self
    (sym c.sum_in.ensures.value ∙ c.in-Some.is) (sym c.sum_in-2.ensures.value ∙ c.in-Some-sum_in.is) c.add.ensures.count c.add.ensures.most
    (rw (to_z-of_z w64 c.in-Some.max c.in-Some.ensures.fits, to_z-of_z w64 c.in-Some-sum_in.min c.in-Some-sum_in.ensures.fits) at c.add.ensures.pairs)
