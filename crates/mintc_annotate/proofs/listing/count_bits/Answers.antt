use Rattle.std.proofs.Common.{◌≡◌, ◌∙◌, ◌+◌, length, sym, ap}
use Rattle.std.proofs.lemmas.Bool.{eqb-true}
use Rattle.mintc_annotate.specs.ClockPorts.{listed_in}
use Rattle.mintc_annotate.proofs.ListingLaws.{none_where_empty, first_here}
use Rattle.mintc_annotate.proofs.listing.count_bits.Goals as goal

pub returns-then-is_empty : goal.returns-then-is_empty
returns-then-is_empty c =
    let none : length c.port_bits-bits.result.now ≡ 0 = eqb-true (length c.port_bits-bits.result.now) 0 (sym c.is_empty.ensures ∙ c.if-is_empty.true) in
    let empty = ap length (sym c.port_bits-bits.ensures) ∙ none in
    let no = none_where_empty c.args.ports.now c.args.output c.index-listed-number.result c.requires.ports empty in
    c.loop-number.invariant.0 ∙ first_here c.args.ports.now c.args.output c.args.listed.now c.loop-number.number (c.args.before + c.loop-number.number + 1) c.index-listed-number.result c.loop-number-test.true
    (ap (listed_in c.args.ports.now c.args.output) (sym c.index-listed-number.is) ∙ no)
