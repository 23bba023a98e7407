use Rattle.std.proofs.Common.{◌<◌, ◌∙◌, length, arith}
use Rattle.std.proofs.lemmas.Grind.{common_steps}
use Rattle.mintc_timing.specs.Paths.{output_of}
use Rattle.mintc_checker.proofs.Placing.{entry_count, entry_given, outputs_more, others_more, AreApart-entered}
use Rattle.mintc_checker.proofs.course.enter_outputs.Goals as goal

pub loop-number-init : goal.loop-number-init
loop-number-init c = record {
  places = c.requires.places;
  count = c.requires.count;
  outputs = λ bit o. absurd (omega (arith, o.1));
  others = λ bit some. absurd (some (c.requires.none bit));
  given = omega (arith, c.requires.given);
}

pub loop-number-preserved : goal.loop-number-preserved
loop-number-preserved c =
    let i = c.loop-number.invariant in
    let old = c.loop-number.places in
    let new = c.enter.new.self in
    let number = c.loop-number.number in
    let place = c.enter.result in
    let below : number < length c.args.flat.now.elements = grind (arith, common_steps) in
    let inside : output_of number < length old.of_bits.items = omega (arith, i.count) in
    record {
      places = AreApart-entered old new (output_of number) place i.places inside c.enter.ensures;
      count = entry_count old new (output_of number) place inside c.enter.ensures ∙ i.count;
      outputs = outputs_more old new number place i.places inside c.enter.ensures i.outputs;
      others = others_more old new number place i.places inside c.enter.ensures i.others;
      given = omega (arith, entry_given old new (output_of number) place inside c.enter.ensures, i.given);
    }
