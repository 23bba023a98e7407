use Rattle.std.proofs.Common.{◌≡◌, ◌+◌, ◌∙◌, sym, ap, Some, None, drop, Option, slice_index_or}
use Rattle.std.specs.Option.{option_or}
use Rattle.mintc_annotate_resolve.specs.declared.ports.PortBit.{PortBit}
use Rattle.mintc_annotate_resolve.specs.Ports.{bit_called}
use Rattle.mintc_annotate_resolve.proofs.PortLaws.{bit_within, called_at}
use Rattle.mintc_annotate_resolve.proofs.ports.bit_called.Goals as goal

pub returns-in-Some : goal.returns-in-Some
returns-in-Some c =
    let found : bit_within c.args.names.now (slice_index_or c.args.ports.now c.loop-port.port-index c.port-item.result) c.args.text.now ≡ Some c.in-Some.bit =
    ap (λ port. bit_within c.args.names.now port c.args.text.now) (sym c.port-item.is) ∙ sym c.in-Some.ensures in
    sym (c.loop-port.invariant ∙ called_at c.args.names.now c.args.ports.now c.args.text.now c.loop-port.port-index c.port-item.result c.loop-port-test.true
    ∙ ap (λ (o : Option PortBit). option_or o (bit_called c.args.names.now (drop (c.loop-port.port-index + 1) c.args.ports.now) c.args.text.now)) found)

pub loop-port-preserved : goal.loop-port-preserved
loop-port-preserved c =
    let none : bit_within c.args.names.now (slice_index_or c.args.ports.now c.loop-port.port-index c.port-item.result) c.args.text.now ≡ None =
    ap (λ port. bit_within c.args.names.now port c.args.text.now) (sym c.port-item.is) ∙ sym c.in-None.ensures in
    c.loop-port.invariant ∙ called_at c.args.names.now c.args.ports.now c.args.text.now c.loop-port.port-index c.port-item.result c.loop-port-test.true
    ∙ ap (λ (o : Option PortBit). option_or o (bit_called c.args.names.now (drop (c.loop-port.port-index + 1) c.args.ports.now) c.args.text.now)) none
