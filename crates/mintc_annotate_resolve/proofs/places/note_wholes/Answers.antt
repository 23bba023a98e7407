use Rattle.std.proofs.Common.{Option, sym, ap, ◌∙◌}
use Rattle.std.specs.Option.{option_or}
use Rattle.mintc_annotate_resolve.specs.declared.ports.PortBit.{PortBit}
use Rattle.mintc_annotate_resolve.specs.Places.{whole_of}
use Rattle.mintc_annotate_resolve.proofs.SharedPlaceLaws.{whole_more}
use Rattle.mintc_annotate_resolve.proofs.places.note_wholes.Goals as goal

pub loop-port-preserved : goal.loop-port-preserved
loop-port-preserved c = λ k its.
    c.in_ok-note_whole.ensures k its ∙ ap (λ (o : Option PortBit). option_or o (whole_of c.port-item.result k)) (c.loop-port.invariant k its)
    ∙ sym (whole_more c.args.ports.now c.loop-port.port-index c.port-item.result k c.loop-port-test.true c.port-item.is)
