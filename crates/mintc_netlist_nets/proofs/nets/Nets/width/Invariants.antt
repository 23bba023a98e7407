use Rattle.std.proofs.Common.{◌≡◌, ◌≤◌, ◌*◌, take}
use Rattle.mintc_netlist_nets.proofs.ExpressionLaws.{width_in}
use Rattle.mintc_netlist_nets.proofs.nets.Nets.width.Given as goal

-- the width of the pieces so far
abbrev pub invariant-loop-piece : goal.invariant-loop-piece
invariant-loop-piece l = (l.width ≡ width_in l.module_nets (take l.piece-index l.pieces)) × (l.width ≤ l.piece-index * 4294967296)
