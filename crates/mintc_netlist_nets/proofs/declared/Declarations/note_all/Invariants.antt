use Rattle.std.proofs.Common.{◌≡◌, take, map}
use Rattle.std.specs.List.{fold}
use Rattle.mintc_netlist_nets.specs.Declaring.{with_declaration, declared_as}
use Rattle.mintc_netlist_nets.proofs.declared.Declarations.note_all.Given as goal

-- the names so far are taken in
abbrev pub invariant-loop-name : goal.invariant-loop-name
invariant-loop-name l = l.self ≡ fold with_declaration l.initial.self (map (declared_as l.declaration) (take l.name-index l.names))
