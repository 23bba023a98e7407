use Rattle.std.proofs.lemmas.Result.{on_ok_weaker}
use Rattle.mintcx_verdicts.specs.Counts.{both_text, phases_text}
use Rattle.mintcx_verdicts.proofs.WrittenLaws.{in_two}
use Rattle.mintcx_verdicts.proofs.counts.put_counts.Goals as goal

pub returns : goal.returns
returns c = on_ok_weaker c.put_other_departures.result
    (λ e. in_two c.args.lines.now (phases_text c.args.flat.now c.args.schedule.now) (both_text c.args.flat.now c.args.departures.now) c.in_ok-put_other_phases.ensures e)
    c.put_other_departures.ensures
