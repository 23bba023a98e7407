use Rattle.std.proofs.Common.{◌↔◌, drop}
use Rattle.mintc_timing.specs.declared.link.Link.{Link}
use Rattle.mintc_graph.specs.Rings.{IsClosed, Joins}
use Rattle.mintc_certificate.specs.Valid.{links_of_members}
use Rattle.mintc_checker.proofs.chain.lead_round.Given as goal

-- the ring closes where the rest of it leads to the beginning
abbrev pub invariant-loop-place : goal.invariant-loop-place
invariant-loop-place l =
    IsClosed (λ (k : Link). k.from) (λ (k : Link). k.to) (links_of_members l.flat l.members)
    ↔ Joins (λ (k : Link). k.from) (λ (k : Link). k.to) l.at (drop l.place (links_of_members l.flat l.members)) l.first.from
