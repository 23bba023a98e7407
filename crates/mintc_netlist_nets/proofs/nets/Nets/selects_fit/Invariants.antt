use Rattle.std.proofs.Common.{◌≡◌, drop}
use Rattle.mintc_netlist.specs.Expressions.{selects_fit}
use Rattle.mintc_netlist_nets.proofs.nets.Nets.selects_fit.Given as goal

-- what is left fits where the whole does
abbrev pub invariant-loop-piece : goal.invariant-loop-piece
invariant-loop-piece l = selects_fit l.module_nets (drop l.piece-index l.pieces) ≡ selects_fit l.module_nets l.pieces
