use Rattle.std.proofs.Common.{◌<◌, ◌∙◌, [], length, map, All, sym, ap, subst, unwrap_or}
use Rattle.std.proofs.lemmas.List.{get_or_default}
use Rattle.std.proofs.lemmas.List.Elements.{All-append, All-map}
use Rattle.mintc_clock.specs.declared.clock.Listed.{Listed}
use Rattle.mintc_annotate.specs.ClockPorts.{listed_in}
use Rattle.mintc_annotate.specs.Counts.{no_listed, place_bit}
use Rattle.mintc_annotate.proofs.BuildLaws.{bits_pushed}
use Rattle.mintc_annotate.proofs.listing.bits_in.Goals as goal

pub loop-place-preserved : goal.loop-place-preserved
loop-place-preserved c =
    let at = get_or_default c.args.listed.now c.loop-place.place no_listed c.index-listed-place.result c.loop-place-test.true ∙ sym c.index-listed-place.is in (
      bits_pushed c.args.ports.now c.args.output c.args.listed.now c.loop-place.place c.loop-place.found.items c.push_bits.new.found.items c.port_bits.result.now c.loop-place-test.true c.loop-place.invariant.0 c.in_ok-push_bits.ensures
          (c.port_bits.ensures ∙ ap (λ (x : Listed). unwrap_or (listed_in c.args.ports.now c.args.output x) []) (sym at)),
      subst (λ l. All (λ x. x.place < length c.args.listed.now) l) (sym c.in_ok-push_bits.ensures)
          (All-append (λ x. x.place < length c.args.listed.now) c.loop-place.found.items (map (place_bit c.loop-place.place) c.port_bits.result.now) c.loop-place.invariant.1
          (All-map (λ x. x.place < length c.args.listed.now) (place_bit c.loop-place.place) c.port_bits.result.now (λ k d less. c.loop-place-test.true))),
    )
