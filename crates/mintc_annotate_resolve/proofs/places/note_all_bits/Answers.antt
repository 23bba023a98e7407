use Rattle.std.proofs.Common.{Option, take, sym, ap, ◌∙◌}
use Rattle.std.specs.Option.{option_or}
use Rattle.mintc_annotate_resolve.specs.declared.ports.PortBit.{PortBit}
use Rattle.mintc_annotate_resolve.specs.Ports.{bit_called}
use Rattle.mintc_annotate_resolve.specs.Places.{place_at, among_bits}
use Rattle.mintc_annotate_resolve.proofs.SharedPlaceLaws.{or_assoc, called_more}
use Rattle.mintc_annotate_resolve.proofs.places.note_all_bits.Goals as goal

pub loop-port-preserved : goal.loop-port-preserved
loop-port-preserved c = λ k its.
    let port = c.port-item.result in
    let bits = among_bits c.args.names.now port port.bits k in
    c.in_ok-note_bits.ensures k its ∙ ap (λ (o : Option PortBit). option_or o bits) (c.loop-port.invariant k its)
    ∙ or_assoc (place_at c.args.places.now k) (bit_called c.args.names.now (take c.loop-port.port-index c.args.ports.now) k) bits
    ∙ ap (option_or (place_at c.args.places.now k)) (sym (called_more c.args.names.now c.args.ports.now c.loop-port.port-index port k c.loop-port-test.true c.port-item.is))
