use Rattle.std.proofs.Common.{◌≡◌, ◌<◌, ◌++◌, List, length, ap, ◌∙◌, subst, sym, arith}
use Rattle.std.proofs.lemmas.List.{get_or_read}
use Rattle.std.proofs.lemmas.Result.{on_ok_weaker}
use Rattle.mintcx_chain.specs.declared.stages.Stage.{Stage}
use Rattle.mintcx_chain.specs.Names.{IsShort, IsStage}
use Rattle.mintcx_chain.specs.Turning.{no_stage}
use Rattle.mintcx_optima.specs.Tables.{no_row, row_of}
use Rattle.mintcx_reports.specs.Hops.{IsTraced}
use Rattle.mintcx_reports.specs.Rows.{stage_rows}
use Rattle.mintcx_reports.proofs.stages.push_nth.Goals as goal

pub push_stage-requires-clause-time : goal.push_stage-requires-clause-time
push_stage-requires-clause-time c =
    let inside : c.args.number < length c.args.rows.now = omega (arith, c.requires.rows, c.requires.number) in
    c.requires.times c.args.number no_row inside

pub push_stage-requires-clause-few : goal.push_stage-requires-clause-few
push_stage-requires-clause-few c =
    let inside : c.args.number < length c.args.rows.now = omega (arith, c.requires.rows, c.requires.number) in
    c.requires.few c.args.number no_row inside

pub push_stage-requires-clause-stage : goal.push_stage-requires-clause-stage
push_stage-requires-clause-stage c =
    let stage = c.index-stages-number.result in
    subst (IsStage c.args.told.now.flat.now) (sym c.index-stages-number.is) (c.requires.ring.each c.args.number stage c.requires.number)

pub push_stage-requires-clause-short : goal.push_stage-requires-clause-short
push_stage-requires-clause-short c =
    let stage = c.index-stages-number.result in
    subst IsShort (sym c.index-stages-number.is) (c.requires.ring.short c.args.number stage c.requires.number)

pub push_stage-requires-clause-traced : goal.push_stage-requires-clause-traced
push_stage-requires-clause-traced c =
    let stage = c.index-stages-number.result in
    subst (IsTraced c.args.told.now.flat.now) (sym c.index-stages-number.is) (c.requires.traced c.args.number stage c.requires.number)

pub returns-clause-ok : goal.returns-clause-ok
returns-clause-ok c =
    let design = c.args.told.now.flat.now in
    let s = c.args.told.now.schedule.now in
    let cells = c.args.told.now.cells.now in
    let unit = c.args.told.now.unit in
    let stages = c.args.stages.now in
    let n = c.args.number in
    let row = row_of c.args.rows.now n in
    on_ok_weaker c.push_stage.result
    (λ e. e ∙ ap (λ (k : Stage). c.args.table.now.rows ++ stage_rows design s cells unit row k) (get_or_read stages n c.index-stages-number.result c.requires.number c.index-stages-number.is no_stage))
    c.push_stage.ensures.ok
