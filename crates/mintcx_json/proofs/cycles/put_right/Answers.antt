use Rattle.std.proofs.Common.{◌++◌, codes}
use Rattle.std.proofs.lemmas.Result.{on_ok_weaker}
use Rattle.mintcx_json.specs.Objects.{head_fields}
use Rattle.mintcx_json.specs.Clocks.{clock_fields}
use Rattle.mintcx_json.proofs.PieceLaws.{and_fields, one_object}
use Rattle.mintcx_json.proofs.cycles.put_right.Goals as goal

pub returns : goal.returns
returns c =
    let head = head_fields (codes "optimise") 0 (codes "right") c.args.subject.now in
    let clock = clock_fields c.args.flat.now c.args.schedule.now c.args.departures.now in
    on_ok_weaker c.close.result
    (λ e. one_object c.args.sheet.now (head ++ clock) c.in_ok-open.ensures
    (and_fields c.open.new.self head clock c.in_ok-put_head.ensures c.in_ok-put_clock.ensures) e)
    c.close.ensures
