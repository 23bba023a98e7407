-- The links of a design hold of each right schedule, so no chain of them forbids its cycle time.
use Rattle.std.proofs.Common.{arith}
use Rattle.std.proofs.lemmas.Int.{ints}
use Rattle.mintc_timing.specs.Times.{Meets, node_time}
use Rattle.mintc_timing.specs.Links.{links_of}
use Rattle.mintc_timing.specs.Laws.{RightMeetsLinks, NoChainForbidsRight}
use Rattle.mintc_timing.proofs.SharedByKind.{All-links}
use Rattle.mintc_timing.proofs.SharedChains.{chain-at_most}
use Rattle.mintc_timing.proofs.SharedLinkLaws.{each_met}

pub right_meets_links_lem : RightMeetsLinks
right_meets_links_lem t s d limits ends right = All-links t (Meets t.flat s d) (each_met t s d limits ends right)

pub no_chain_forbids_right_lem : NoChainForbidsRight
no_chain_forbids_right_lem t s d chain limits ends right is_chain forbids =
    let most = chain-at_most s.cycle s.den (node_time t.flat s d) (links_of t) chain (right_meets_links_lem t s d limits ends right) is_chain in
    omega (arith, ints)
