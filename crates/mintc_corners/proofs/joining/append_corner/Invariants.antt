use Rattle.std.proofs.Common.{◌≡◌, ◌++◌, map, take}
use Rattle.mintc_corners.specs.Lifted.{lifted_link, widest}
use Rattle.mintc_corners.proofs.joining.append_corner.Given as goal

-- the links so far
abbrev pub invariant-loop-link : goal.invariant-loop-link
invariant-loop-link l = l.items.items ≡ l.fn.items.items ++ map (lifted_link (widest l.systems) l.clock l.before) (take l.link-index l.links)
