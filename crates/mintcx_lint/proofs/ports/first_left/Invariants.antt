use Rattle.std.proofs.Common.{◌≡◌, drop}
use Rattle.std.specs.Prelude.{filter}
use Rattle.mintcx_lint.specs.Leaving.{is_left}
use Rattle.mintcx_lint.proofs.ports.first_left.Given as goal

-- all that are left out are among the ports that are left
abbrev pub invariant-loop-port : goal.invariant-loop-port
invariant-loop-port l = filter (is_left l.named.phases.now l.named.listed) l.ports ≡ filter (is_left l.named.phases.now l.named.listed) (drop l.port-index l.ports)
