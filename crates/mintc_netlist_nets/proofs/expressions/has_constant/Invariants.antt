use Rattle.std.proofs.Common.{◌≡◌, drop}
use Rattle.mintc_netlist.specs.Expressions.{has_constant}
use Rattle.mintc_netlist_nets.proofs.expressions.has_constant.Given as goal

-- what is left has a constant where the whole has
abbrev pub invariant-loop-piece : goal.invariant-loop-piece
invariant-loop-piece l = has_constant (drop l.piece-index l.pieces) ≡ has_constant l.pieces
