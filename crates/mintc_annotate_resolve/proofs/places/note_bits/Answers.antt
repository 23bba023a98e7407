use Rattle.std.proofs.Common.{◌≡◌, ◌<◌, ℕ, List, Option, [], length, take, get_or, sym, ap, ◌∙◌, subst}
use Rattle.std.specs.Option.{option_or}
use Rattle.std.proofs.lemmas.List.{get_or_default}
use Rattle.mintc_annotate_resolve.specs.declared.ports.PortBit.{PortBit}
use Rattle.mintc_annotate_resolve.specs.Ports.{port_bit}
use Rattle.mintc_annotate_resolve.specs.Places.{place_at, only, among_bits}
use Rattle.mintc_annotate_resolve.proofs.SharedPlaceLaws.{or_assoc, among_more}
use Rattle.mintc_annotate_resolve.proofs.places.note_bits.Goals as goal

pub loop-bit-preserved : goal.loop-bit-preserved
loop-bit-preserved c = λ k its.
    let names = c.args.names.now in
    let port = c.args.port.now in
    let n = c.loop-bit.bit-index in
    let bit = get_or c.items-bits.result.now n 0 in
    let text = c.bytes.result.now in
    let within : n < length port.bits = subst (λ (bs : List ℕ). n < length bs) c.items-bits.ensures c.loop-bit-test.true in
    let same : bit ≡ get_or port.bits n 0 = ap (λ (bs : List ℕ). get_or bs n 0) c.items-bits.ensures in
    let is : bit ≡ get_or port.bits n bit = same ∙ get_or_default port.bits n 0 bit within in
    let inside : bit < length names = subst (λ (b : ℕ). b < length names) (sym same) (c.requires n 0 within) in
    let called : text ≡ get_or names bit [] = c.bytes.ensures ∙ c.index-names-bit.is ∙ get_or_default names bit c.index-names-bit.result [] inside in
    c.in_ok-note.ensures k its ∙ ap (λ (o : Option PortBit). option_or o (only text (port_bit port.output bit) k)) (c.loop-bit.invariant k its)
    ∙ or_assoc (place_at c.args.places.now k) (among_bits names port (take n port.bits) k) (only text (port_bit port.output bit) k)
    ∙ ap (option_or (place_at c.args.places.now k)) (sym (among_more names port n bit text k within is called))
