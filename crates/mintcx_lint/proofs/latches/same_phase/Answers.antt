use Rattle.std.proofs.Common.{◌≡◌, ◌<◌, refl, subst}
use Rattle.std.specs.Prelude.{IfSome}
use Rattle.mintc_timing.specs.declared.parts.Pair.{Pair}
use Rattle.mintcx_lint.specs.declared.latches.SamePhase.{SamePhase}
use Rattle.mintcx_lint.proofs.TallyLaws.{none_found, some_found}
use Rattle.mintcx_lint.proofs.latches.same_phase.Goals as goal

pub returns-in-Some-clause-found : goal.returns-in-Some-clause-found
returns-in-Some-clause-found c =
    let found : SamePhase = record { count = c.tally_of-tally.result.count; first = c.in-Some.first } in
    some_found c.args.system.now c.args.storage c.tally_of-tally.result found c.tally_of-tally.ensures.tallied c.in-Some.is refl

pub returns-in-None-clause-found : goal.returns-in-None-clause-found
returns-in-None-clause-found c =
    none_found c.args.system.now c.args.storage c.tally_of-tally.result c.tally_of-tally.ensures.tallied c.in-None.is
