use Rattle.std.proofs.Common.{◌≡◌, ◌++◌, ℕ, List, map, arith, w64, to_z, of_z}
use Rattle.std.specs.List.{range_with_len}
use Rattle.std.proofs.lemmas.Grind.{common_steps}
use Rattle.std.proofs.lemmas.List.FromFn.{map-range_with_len_more}
use Rattle.csv.specs.Writing.{row_text}
use Rattle.mintcx_csv.specs.Chains.{chain_record_at}
use Rattle.mintcx_csv.specs.Records.{text_so_far}
use Rattle.mintcx_csv.specs.Tables.{by_rfc}
use Rattle.mintcx_csv.proofs.TableLaws.{next_row}
use Rattle.mintcx_csv.proofs.chains.put_stages.Goals as goal

pub loop-number-preserved : goal.loop-number-preserved
loop-number-preserved c =
    let record_at : ℕ → List (List ℕ) = chain_record_at c.args.flat.now (to_z w64 (of_z w64 c.args.den)) c.args.rows.now c.args.stages.now in
    let n = c.loop-number.number in
    let text : text_so_far c.put_stage.new.records ≡ text_so_far c.loop-number.records ++ row_text by_rfc (record_at n) = grind (arith, common_steps, c.in_ok-put_stage.ensures.text) in
    record {
      between = c.in_ok-put_stage.ensures.between;
      text = rw (map-range_with_len_more record_at 0 n n (omega arith))
          (next_row (text_so_far c.args.records.now) (text_so_far c.loop-number.records) (text_so_far c.put_stage.new.records) (record_at n) (map record_at (range_with_len 0 n))
          c.loop-number.invariant.text text);
    }
