use Rattle.std.proofs.Common.{◌≡◌, take}
use Rattle.std.specs.List.{fold}
use Rattle.mintc_text_names.specs.Names.{with_name}
use Rattle.mintcx_lint.specs.Ports.{names_of}
use Rattle.mintcx_lint.proofs.ports.add_listed.Given as goal

-- the names so far are taken in
abbrev pub invariant-loop-port : goal.invariant-loop-port
invariant-loop-port l = l.names ≡ fold with_name l.initial.names (names_of (take l.port-index l.listed))
