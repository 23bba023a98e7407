use Rattle.std.proofs.Common.{◌∙◌}
use Rattle.mintc_checker.specs.Course.{placed}
use Rattle.mintc_checker.proofs.Holding.{AreLabels-last, AreOutputPlaces-course, AreRows-first}
use Rattle.mintc_checker.proofs.Sizes.{AreTimelyLabels-from_labels}
use Rattle.mintc_checker.proofs.labels.fill.Goals as goal

pub begin_all-requires-clause-places : goal.begin_all-requires-clause-places
begin_all-requires-clause-places c = AreOutputPlaces-course c.args.departing.now.flat.now c.args.order.now c.args.course.now c.requires.course

pub carry_all-requires-clause-rows : goal.carry_all-requires-clause-rows
carry_all-requires-clause-rows c =
    AreRows-first c.args.departing.now.flat.now c.begin_all.ensures.design c.args.departing.now.den c.args.departing.now.departures.now c.args.order.now c.requires.order c.args.course.now c.requires.course c.begin_all.new.rows c.begin_all.ensures.rows

pub carry_all-requires-clause-places : goal.carry_all-requires-clause-places
carry_all-requires-clause-places c = c.begin_all.auto.rows ∙ c.requires.places

pub returns : goal.returns
returns c =
    let departing = c.args.departing.now in
    let labels = placed c.args.course.now.places.of_bits.items c.carry_all.new.rows in
    AreTimelyLabels-from_labels departing.flat.now c.begin_all.ensures.design departing.short departing.den departing.departures.now labels departing.is_den departing.in_range
    (AreLabels-last departing.flat.now c.begin_all.ensures.design departing.den departing.departures.now c.args.order.now c.requires.order c.args.course.now c.requires.course c.carry_all.new.rows
    (c.carry_all.auto.rows ∙ c.begin_all.auto.rows ∙ c.requires.places) c.carry_all.ensures)
