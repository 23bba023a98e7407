use Rattle.std.proofs.Common.{ℕ, ◌+◌, map, arith}
use Rattle.std.specs.List.{range_with_len}
use Rattle.std.proofs.lemmas.List.FromFn.{map-range_with_len_more}
use Rattle.json.specs.Json.{Json}
use Rattle.mintcx_json.specs.Clocks.{phase_value}
use Rattle.mintcx_json.proofs.PieceLaws.{one_more}
use Rattle.mintcx_json.proofs.clocks.put_each_phase.Goals as goal

pub loop-at-preserved : goal.loop-at-preserved
loop-at-preserved c =
    let value : ℕ → Json = phase_value c.args.flat.now c.args.schedule.now in
    let at = c.loop-at.at in
    rw (map-range_with_len_more value 1 at (at + 1) (omega arith))
    (one_more c.args.sheet.now (map value (range_with_len 1 at)) (value (at + 1)) c.loop-at.invariant c.in_ok-put_phase.ensures)
