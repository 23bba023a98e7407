use Rattle.std.proofs.Common.{◌≡◌, drop}
use Rattle.mintc_annotate_resolve.specs.Ports.{bit_called}
use Rattle.mintc_annotate_resolve.proofs.ports.bit_called.Given as goal

-- it depends on the ports that are left
abbrev pub invariant-loop-port : goal.invariant-loop-port
invariant-loop-port l = bit_called l.names l.ports l.text ≡ bit_called l.names (drop l.port-index l.ports) l.text
