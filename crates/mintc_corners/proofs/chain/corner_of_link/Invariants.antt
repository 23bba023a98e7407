use Rattle.std.proofs.Common.{◌≡◌, ◌+◌, length, take}
use Rattle.std.specs.List.{flat_map}
use Rattle.mintc_constraints.specs.Ordinary.{Constraints}
use Rattle.mintc_corners.proofs.chain.corner_of_link.Given as goal

-- the links of the lists so far are taken off
abbrev pub invariant-loop-corner : goal.invariant-loop-corner
invariant-loop-corner l = length (flat_map (λ (x : Constraints). x.links) (take l.corner l.lists)) + l.rest ≡ l.number
