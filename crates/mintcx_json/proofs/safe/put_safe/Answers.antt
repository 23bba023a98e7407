use Rattle.std.proofs.Common.{◌++◌, ◌∷◌, [], codes}
use Rattle.std.proofs.lemmas.Result.{on_ok_weaker}
use Rattle.mintcx_json.specs.Objects.{Field, head_fields, object_of}
use Rattle.mintcx_json.specs.Clocks.{clock_fields}
use Rattle.mintcx_json.specs.Chains.{deciding_value}
use Rattle.mintcx_json.specs.Slacks.{time_fields}
use Rattle.mintcx_json.proofs.PieceLaws.{and_fields, in_two, one_object}
use Rattle.mintcx_json.proofs.safe.put_safe.Goals as goal

pub returns : goal.returns
returns c =
    let design = c.args.flat.now in
    let s = c.args.decided.now.schedule.now in
    let head = head_fields (codes "safe") 0 (codes "safe") c.args.subject.now in
    let clock = clock_fields design s c.args.decided.now.departures.now in
    let chain : Field = (codes "chain", deciding_value design s c.args.decided.now.stages.now) in
    let without : Field = (codes "without", object_of (time_fields c.args.without.now)) in
    on_ok_weaker c.close.result
    (λ e. one_object c.args.sheet.now (head ++ clock ++ chain ∷ without ∷ []) c.in_ok-open.ensures
    (and_fields c.open.new.self (head ++ clock) (chain ∷ without ∷ [])
    (and_fields c.open.new.self head clock c.in_ok-put_head.ensures c.in_ok-put_clock.ensures)
    (in_two c.put_clock.new.sheet chain without c.in_ok-put_deciding.ensures c.in_ok-put_without.ensures)) e)
    c.close.ensures
