use Rattle.std.proofs.Common.{◌≡◌, take}
use Rattle.std.specs.List.{flat_map, fold}
use Rattle.mintc_netlist.specs.Nets.{piece_names}
use Rattle.mintc_text_names.specs.Names.{with_name}
use Rattle.mintc_netlist_nets.proofs.net_names.add_pieces.Given as goal

-- the names so far are taken in
abbrev pub invariant-loop-piece : goal.invariant-loop-piece
invariant-loop-piece l = l.names ≡ fold with_name l.initial.names (flat_map piece_names (take l.piece-index l.pieces))
