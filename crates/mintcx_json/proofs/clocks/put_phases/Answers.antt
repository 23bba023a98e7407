use Rattle.std.proofs.Common.{codes, map}
use Rattle.std.specs.List.{range_with_len}
use Rattle.std.proofs.lemmas.Result.{on_ok_weaker}
use Rattle.mintc_timing.specs.Design.{phase_count}
use Rattle.mintcx_json.specs.Objects.{array_of}
use Rattle.mintcx_json.specs.Clocks.{phase_value}
use Rattle.mintcx_json.proofs.PieceLaws.{one_array, one_field}
use Rattle.mintcx_json.proofs.clocks.put_phases.Goals as goal

pub returns : goal.returns
returns c =
    let values = map (phase_value c.args.flat.now c.args.schedule.now) (range_with_len 1 (phase_count c.args.flat.now)) in
    on_ok_weaker c.close_array.result
    (λ e. one_field c.args.sheet.now (codes "phases") (array_of values) c.in_ok-key.ensures
    (one_array c.key.new.self values c.in_ok-open_array.ensures c.in_ok-put_each_phase.ensures e))
    c.close_array.ensures
