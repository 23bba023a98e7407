use Rattle.std.proofs.Common.{◌≡◌, ◌≢◌, ◌<◌, ◌+◌, ◌-◌, arith, ap, ◌∙◌, length}
use Rattle.std.proofs.lemmas.Grind.{common_steps}
use Rattle.mintc_timing.specs.declared.parts.Element.{Element}
use Rattle.mintc_timing.specs.Paths.{output_of}
use Rattle.mintc_timing.proofs.SharedFitting.{read_time}
use Rattle.mintc_checker.specs.Course.{place_at}
use Rattle.mintc_checker.proofs.Beginning.{AreRows-begun}
use Rattle.mintc_checker.proofs.labels.begin_element.Goals as goal
use Rattle.mintc_checker.proofs.labels.begin_element.Goals.{After-index-place}

-- the place that is read is that of the output
place_is : (c : After-index-place) → c.index-place.result.now ≡ place_at c.args.places.now.of_bits.items (output_of c.args.number)
place_is c = grind (arith, common_steps)

row_in : (c : After-index-place) → c.index-place.result.now < length c.args.rows.now
row_in c = omega (arith, place_is c, c.requires.places.below (output_of c.args.number), c.requires.count)

pub begin-requires-clause-place : goal.begin-requires-clause-place
begin-requires-clause-place c = row_in (goal.at.begin-requires-clause-place c).After-index-place

pub returns : goal.returns
returns c =
    let at = (goal.at.returns c).After-index-place in
    let phase : (c.element.result.now.phase - 1) + 1 ≡ c.element.result.now.phase = omega arith in
    AreRows-begun c.args.departing.now.flat.now c.args.departing.now.den c.args.departing.now.departures.now c.args.number (c.element.result.now.phase - 1) _ c.args.places.now.of_bits.items
    c.index-place.result.now c.args.rows.now c.begin.new.rows c.begin.auto.rows c.requires.number (phase ∙ ap (λ (e : Element). e.phase) c.element.ensures.value)
    (read_time c.output_time-time.result c.output_time-time.ensures.range ∙ c.output_time-time.ensures.value)
    (place_is at) (row_in at)
    (λ l low same. let apart : l ≢ c.args.number = omega arith in c.requires.places.apart l c.args.number (omega (arith, low, c.requires.number)) c.requires.number apart (same ∙ place_is at))
    c.begin.ensures.others c.begin.ensures.lanes c.begin.ensures.own c.requires.rows
