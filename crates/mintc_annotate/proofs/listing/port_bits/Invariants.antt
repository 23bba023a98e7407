use Rattle.std.proofs.Common.{◌≡◌, drop}
use Rattle.mintc_annotate.specs.ClockPorts.{listed_in}
use Rattle.mintc_annotate.proofs.listing.port_bits.Given as goal

-- it depends on the ports that are left
abbrev pub invariant-loop-port : goal.invariant-loop-port
invariant-loop-port l = listed_in l.ports l.output l.listed ≡ listed_in (drop l.port-index l.ports) l.output l.listed
