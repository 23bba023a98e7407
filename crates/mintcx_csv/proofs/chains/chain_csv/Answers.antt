use Rattle.std.proofs.Common.{◌≡◌, ◌++◌, ◌∙◌, ℤ, List, ap, map, length, arith, w64, to_z, of_z}
use Rattle.std.specs.List.{range_with_len}
use Rattle.std.proofs.lemmas.Int.{clamps, ints, to_z-of_z}
use Rattle.std.proofs.lemmas.Result.{IfOk-weaker}
use Rattle.csv.specs.Writing.{row_text}
use Rattle.mintcx_chain.specs.declared.rows.Row.{Row}
use Rattle.mintcx_chain.specs.Rows.{rows_of}
use Rattle.mintcx_csv.specs.Chains.{chain_fields, chain_record_at, chain_records}
use Rattle.mintcx_csv.specs.Records.{text_so_far}
use Rattle.mintcx_csv.specs.Tables.{by_rfc, text_of, shown_over}
use Rattle.mintcx_csv.proofs.ChainLaws.{records_several, rows_count}
use Rattle.mintcx_csv.proofs.TableLaws.{is_table, whole_table}
use Rattle.mintcx_csv.proofs.chains.chain_csv.Goals as goal

pub put_stages-requires-clause-rows : goal.put_stages-requires-clause-rows
put_stages-requires-clause-rows c =
    ap (λ (rows : List Row). length rows) (c.items.ensures ∙ c.in_ok-rows.ensures.value)
    ∙ rows_count c.args.flat.now c.args.schedule.now c.args.departures.now c.args.stages.now

pub returns : goal.returns
returns c =
    let design = c.args.flat.now in
    let s = c.args.schedule.now in
    let d = c.args.departures.now in
    let stages = c.args.stages.now in
    let records = chain_records design s d stages in
    let low = c.requires.clocked.in_range.den.0 in
    let high = c.requires.clocked.in_range.den.1 in
    let den : to_z w64 (of_z w64 s.den) ≡ s.den = to_z-of_z w64 s.den (omega (arith, ints, clamps)) in
    let head = c.in_ok-put_chain_head.ensures.text
    ∙ ap (λ (x : ℤ). text_so_far c.no_records-records.result ++ row_text by_rfc (shown_over x 6 chain_fields)) den in
    let rest = c.in_ok-put_stages.ensures.text
    ∙ ap (λ (x : ℤ). text_so_far c.put_chain_head.new.records ++ text_of (map (chain_record_at design x c.items.result.now stages) (range_with_len 0 (length stages)))) den
    ∙ ap (λ (x : List Row). text_so_far c.put_chain_head.new.records ++ text_of (map (chain_record_at design s.den x stages) (range_with_len 0 (length stages))))
    (c.items.ensures ∙ c.in_ok-rows.ensures.value) in
    let text = whole_table (text_so_far c.no_records-records.result) (text_so_far c.put_chain_head.new.records) (text_so_far c.put_stages.new.records) (shown_over s.den 6 chain_fields)
    (map (chain_record_at design s.den (rows_of design s d stages) stages) (range_with_len 0 (length stages))) c.no_records-records.ensures.text head rest in
    IfOk-weaker c.text_of.result _ _ (λ found e. is_table records found (e ∙ text) (records_several design s d stages)) c.text_of.ensures
