use Rattle.std.proofs.Common.{◌++◌, ◌∷◌, [], codes}
use Rattle.std.proofs.lemmas.Result.{on_ok_weaker}
use Rattle.mintcx_json.specs.Objects.{Field, head_fields}
use Rattle.mintcx_json.specs.Clocks.{clock_fields}
use Rattle.mintcx_json.specs.Chains.{deciding_value}
use Rattle.mintcx_json.proofs.PieceLaws.{and_fields, one_object}
use Rattle.mintcx_json.proofs.optimum.put_least.Goals as goal

pub returns : goal.returns
returns c =
    let design = c.args.flat.now in
    let s = c.args.decided.now.schedule.now in
    let d = c.args.decided.now.departures.now in
    let stages = c.args.decided.now.stages.now in
    let head = head_fields c.args.heading.now.command.now 0 (codes "least") c.args.heading.now.subject.now in
    let clock = clock_fields design s d in
    let chain : Field = (codes "chain", deciding_value design s stages) in
    on_ok_weaker c.close.result
    (λ e. one_object c.args.sheet.now (head ++ clock ++ chain ∷ []) c.in_ok-open.ensures
    (and_fields c.open.new.self (head ++ clock) (chain ∷ []) (and_fields c.open.new.self head clock c.in_ok-put_head.ensures c.in_ok-put_clock.ensures)
    c.in_ok-put_deciding.ensures) e)
    c.close.ensures
