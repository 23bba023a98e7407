use Rattle.std.proofs.Common.{◌≡◌}
use Rattle.mintc_timing.specs.Links.{links_of}
use Rattle.mintc_constraints.proofs.SharedOrdinaryLaws.{links_are_ordinary_lem}
use Rattle.mintc_constraints.proofs.listing.links.Goals as goal

pub new-requires : goal.new-requires
new-requires c =
    let t = c.args.system.now in
    let items : c.append_all.new.items.items ≡ links_of t = rw c.new-items.ensures.items at c.in_ok-append_all.ensures in
    rw (c.node_count-nodes.ensures.value, c.flat.ensures.value, items) (links_are_ordinary_lem t c.flat.ensures.design c.flat.ensures.kept)
