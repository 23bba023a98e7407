use Rattle.std.proofs.Common.{◌≡◌, ◌++◌, ◌∙◌, ℤ, ap, map, arith, w64, to_z, of_z}
use Rattle.std.specs.List.{range_with_len}
use Rattle.std.proofs.lemmas.Int.{clamps, ints, to_z-of_z}
use Rattle.std.proofs.lemmas.Result.{IfOk-weaker}
use Rattle.csv.specs.Writing.{row_text}
use Rattle.mintc_timing.specs.Design.{phase_count}
use Rattle.mintcx_csv.specs.Cycles.{phase_fields, phase_records, shown_phase}
use Rattle.mintcx_csv.specs.Records.{text_so_far}
use Rattle.mintcx_csv.specs.Tables.{by_rfc, shown_over}
use Rattle.mintcx_csv.proofs.CycleLaws.{phases_several}
use Rattle.mintcx_csv.proofs.TableLaws.{is_table, whole_table}
use Rattle.mintcx_csv.proofs.cycles.phases_csv.Goals as goal

pub returns : goal.returns
returns c =
    let design = c.args.flat.now in
    let s = c.args.schedule.now in
    let low = c.requires.in_range.den.0 in
    let high = c.requires.in_range.den.1 in
    let den : to_z w64 (of_z w64 s.den) ≡ s.den = to_z-of_z w64 s.den (omega (arith, ints, clamps)) in
    let head = c.in_ok-put_phase_head.ensures.text
    ∙ ap (λ (x : ℤ). text_so_far c.no_records-records.result ++ row_text by_rfc (shown_over x 3 phase_fields)) den in
    let text = whole_table (text_so_far c.no_records-records.result) (text_so_far c.put_phase_head.new.records) (text_so_far c.put_phases.new.records) (shown_over s.den 3 phase_fields)
    (map (shown_phase design s) (range_with_len 1 (phase_count design))) c.no_records-records.ensures.text head c.in_ok-put_phases.ensures.text in
    IfOk-weaker c.text_of.result _ _ (λ found e. is_table (phase_records design s) found (e ∙ text) (phases_several design s)) c.text_of.ensures
