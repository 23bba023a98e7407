use Rattle.std.proofs.Common.{◌∷◌, [], codes}
use Rattle.std.proofs.lemmas.Result.{on_ok_weaker}
use Rattle.mintcx_json.specs.Clocks.{elements_value, schedule_fields}
use Rattle.mintcx_json.proofs.PieceLaws.{and_fields}
use Rattle.mintcx_json.proofs.clocks.put_clock.Goals as goal

pub returns : goal.returns
returns c =
    let design = c.args.flat.now in
    on_ok_weaker c.put_elements.result
    (λ e. and_fields c.args.sheet.now (schedule_fields design c.args.schedule.now) ((codes "elements", elements_value design c.args.departures.now) ∷ [])
    c.in_ok-put_schedule.ensures e)
    c.put_elements.ensures
