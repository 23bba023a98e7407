use Rattle.std.proofs.Common.{◌≡◌, arith}
use Rattle.std.proofs.lemmas.Int.{ints}
use Rattle.mintc_timing.specs.Limits.{IsDelay}
use Rattle.mintc_timing.specs.Paths.{input_of, output_of, greatest_delay}
use Rattle.mintc_certificate.proofs.SharedPathDelays.{Leads-inside, path-range}
use Rattle.mintc_certificate.proofs.links.path_link.Goals as goal

pub path_delay-requires-clause-path : goal.path_delay-requires-clause-path
path_delay-requires-clause-path c = rw c.arcs.ensures.value (Leads-inside c.args.flat.now.arcs (output_of c.args.from) c.args.path.now (input_of c.args.to) c.requires.path.1)

pub reach_link-requires-clause-delay : goal.reach_link-requires-clause-delay
reach_link-requires-clause-delay c =
    let delay : IsDelay (greatest_delay c.args.flat.now.arcs c.args.path.now) =
    path-range c.args.flat.now c.arcs.ensures.kept c.requires.short c.args.from (input_of c.args.to) c.args.path.now c.requires.from c.requires.path.1 in
    let is : c.path_delay.result ≡ greatest_delay c.args.flat.now.arcs c.args.path.now = rw c.arcs.ensures.value at c.path_delay.ensures in
    (omega (arith, ints), omega (arith, ints))
