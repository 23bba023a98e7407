use Rattle.std.proofs.Common.{◌≡◌, drop}
use Rattle.mintc_annotate_resolve.specs.Ports.{whole_port}
use Rattle.mintc_annotate_resolve.proofs.ports.whole_port.Given as goal

-- it depends on the ports that are left
abbrev pub invariant-loop-port : goal.invariant-loop-port
invariant-loop-port l = whole_port l.ports l.text ≡ whole_port (drop l.port-index l.ports) l.text
