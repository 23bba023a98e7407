use Rattle.std.proofs.Common.{ℕ, ◌+◌, List, map, arith}
use Rattle.std.specs.List.{range_with_len}
use Rattle.std.proofs.lemmas.List.FromFn.{map-range_with_len_more}
use Rattle.mintcx_csv.specs.Cycles.{shown_phase}
use Rattle.mintcx_csv.specs.Records.{text_so_far}
use Rattle.mintcx_csv.proofs.TableLaws.{next_row}
use Rattle.mintcx_csv.proofs.cycles.put_phases.Goals as goal

pub loop-at-preserved : goal.loop-at-preserved
loop-at-preserved c =
    let row : ℕ → List (List ℕ) = shown_phase c.args.flat.now c.args.schedule.now in
    let n = c.loop-at.at in
    record {
      between = c.in_ok-put_phase.ensures.between;
      text = rw (map-range_with_len_more row 1 n (n + 1) (omega arith))
          (next_row (text_so_far c.args.records.now) (text_so_far c.loop-at.records) (text_so_far c.put_phase.new.records) (row (n + 1)) (map row (range_with_len 1 n))
          c.loop-at.invariant.text c.in_ok-put_phase.ensures.text);
    }
