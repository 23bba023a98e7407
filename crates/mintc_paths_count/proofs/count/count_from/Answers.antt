use Rattle.std.proofs.Common.{◌≡◌, length, arith}
use Rattle.mintc_paths_count.proofs.Listing.{IsCountToEnd-next}
use Rattle.mintc_paths_count.proofs.count.count_from.Goals as goal

pub returns : goal.returns
returns g c =
    let listed = c.args.listed.now in
    let is : c.loop-to.to-index ≡ length listed = omega arith in
    IsCountToEnd-next g.design c.args.element c.args.lane c.requires.1.1.1.0 c.args.ends.now listed c.requires.1.1.1.1.0 c.requires.1.1.1.1.1.0 c.loop-to.count c.requires.1.0
    (rw is at c.loop-to.invariant)
