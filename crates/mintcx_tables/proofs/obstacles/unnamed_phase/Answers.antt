use Rattle.std.proofs.Common.{All, subst}
use Rattle.std.proofs.lemmas.List.{take_all}
use Rattle.std.proofs.lemmas.List.Elements.{All-more}
use Rattle.mintc_timing_text.specs.Fields.{IsName}
use Rattle.mintcx_tables.proofs.NameLaws.{named_by}
use Rattle.mintcx_tables.proofs.obstacles.unnamed_phase.Goals as goal

pub loop-phase-preserved : goal.loop-phase-preserved
loop-phase-preserved c =
    let named = subst IsName c.bytes.ensures (named_by c.is_name.result c.bytes.result.now c.is_name.ensures c.if-not-is_name.false) in
    All-more IsName c.args.phases.now c.loop-phase.phase c.index-phases-phase.result c.loop-phase-test.true c.loop-phase.invariant
    (subst IsName c.index-phases-phase.is named)

pub returns : goal.returns
returns c = subst (All IsName) (take_all c.loop-phase.phase c.args.phases.now c.loop-phase-test.false) c.loop-phase.invariant
