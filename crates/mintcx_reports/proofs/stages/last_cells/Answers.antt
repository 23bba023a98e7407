use Rattle.std.proofs.Common.{◌≡◌, ◌<◌, ℕ, List, length, ap, ◌∙◌, subst, sym, arith}
use Rattle.std.proofs.lemmas.List.{get_or_read}
use Rattle.std.proofs.lemmas.Result.{IfOk-weaker}
use Rattle.mintcx_chain.specs.declared.stages.Stage.{Stage}
use Rattle.mintcx_chain.specs.Names.{IsStage}
use Rattle.mintcx_chain.specs.Sums.{cycles_of}
use Rattle.mintcx_chain.specs.Turning.{no_stage, stage_at}
use Rattle.mintcx_optima.specs.Tables.{no_row, row_of}
use Rattle.mintcx_reports.specs.Rows.{again_text, begin_cells}
use Rattle.mintcx_reports.proofs.stages.last_cells.Goals as goal

pub again_words-requires-clause-stage : goal.again_words-requires-clause-stage
again_words-requires-clause-stage c =
    let some : 0 < length c.args.stages.now = omega (arith, c.requires.ring.some) in
    subst (IsStage c.args.told.now.flat.now) (sym c.index-stages-0.is) (c.requires.ring.each 0 c.index-stages-0.result some)

pub begin_cells-requires-clause-time : goal.begin_cells-requires-clause-time
begin_cells-requires-clause-time c =
    let inside : length c.args.stages.now < length c.args.rows.now = omega (arith, c.requires.rows) in
    c.requires.times (length c.args.stages.now) no_row inside

pub returns : goal.returns
returns c =
    let design = c.args.told.now.flat.now in
    let s = c.args.told.now.schedule.now in
    let unit = c.args.told.now.unit in
    let stages = c.args.stages.now in
    let row = row_of c.args.rows.now (length stages) in
    let some : 0 < length stages = omega (arith, c.requires.ring.some) in
    let first : c.index-stages-0.result ≡ stage_at stages 0 = get_or_read stages 0 c.index-stages-0.result some c.index-stages-0.is no_stage in
    let words : c.bytes.result.now ≡ again_text design s unit (stage_at stages 0) (cycles_of stages) =
    c.bytes.ensures ∙ c.in_ok-what.ensures
    ∙ ap (λ (k : Stage). again_text design s unit k c.sums_of-sums.result.cycles) first
    ∙ ap (λ (n : ℕ). again_text design s unit (stage_at stages 0) n) c.sums_of-sums.ensures.cycles in
    IfOk-weaker c.begin_cells.result _ _ (λ cells e. e ∙ ap (begin_cells s unit row) words) c.begin_cells.ensures
