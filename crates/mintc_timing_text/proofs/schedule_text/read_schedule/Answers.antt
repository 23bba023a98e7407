use Rattle.mintc_timing_text.specs.Texts.{NextOfText, first}
use Rattle.mintc_timing_text.proofs.SharedReadingLaws.{at_start}
use Rattle.mintc_timing_text.proofs.SharedScheduleLaws.{IsInRange-from_text}
use Rattle.mintc_timing_text.proofs.schedule_text.read_schedule.Goals as goal

pub returns-in-Some-clause-in_range : goal.returns-in-Some-clause-in_range
returns-in-Some-clause-in_range c =
    let text = c.args.text.now in
    IsInRange-from_text text c.in-Some.schedule
    (c.in-Some.ensures text (at_start NextOfText first text c.new-reader.result c.requires c.new-reader.ensures.left c.new-reader.ensures.number))
