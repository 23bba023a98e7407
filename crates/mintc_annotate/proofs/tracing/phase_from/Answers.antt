use Rattle.mintc_annotate.proofs.SharedTraceLaws.{from_end}
use Rattle.mintc_annotate.proofs.tracing.phase_from.Goals as goal

pub returns-in-Some : goal.returns-in-Some
returns-in-Some c = λ ds drivers ways.
    let found = c.in-Some.ensures ds drivers ways in
    from_end ds c.args.spots.now found.0 c.args.start c.in-Some.end c.first_at.result found.1 c.first_at.ensures

pub returns-in-None : goal.returns-in-None
returns-in-None c = λ ds drivers ways p from. c.in-None.ensures ds drivers ways from.steps from.end from.ends
