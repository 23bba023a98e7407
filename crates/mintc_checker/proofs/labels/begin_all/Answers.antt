use Rattle.std.proofs.Common.{◌∙◌}
use Rattle.mintc_checker.proofs.Placed.{AreRows-none}
use Rattle.mintc_checker.proofs.labels.begin_all.Goals as goal

pub loop-number-init : goal.loop-number-init
loop-number-init c = record {
  count = c.requires.count;
  rows = AreRows-none c.args.departing.now.flat.now c.args.departing.now.den c.args.departing.now.departures.now c.args.places.now.of_bits.items c.args.rows.now c.requires.absent;
}

pub loop-number-preserved : goal.loop-number-preserved
loop-number-preserved c = record {
  count = c.begin_element.auto.rows ∙ c.loop-number.invariant.count;
  rows = c.begin_element.ensures;
}
