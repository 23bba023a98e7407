use Rattle.std.proofs.Common.{◌≡◌, ◌++◌, ◌∙◌, ap, arith, SFits, w64, rules}
use Rattle.std.proofs.lemmas.Grind.{common_steps}
use Rattle.std.proofs.lemmas.Int.{to_z-of_z}
use Rattle.std.proofs.lemmas.Result.{on_ok_weaker}
use Rattle.csv.specs.Writing.{row_text}
use Rattle.mintc_text.specs.Lines.{numeral_of}
use Rattle.mintc_timing.specs.Design.{pair_at}
use Rattle.mintcx_frame.specs.Names.{element_name}
use Rattle.mintcx_csv.specs.Records.{text_so_far}
use Rattle.mintcx_csv.specs.Tables.{by_rfc}
use Rattle.mintcx_csv.proofs.TableLaws.{four_fields}
use Rattle.mintcx_csv.proofs.slacks.put_pair.Goals as goal

pub returns-clause-text : goal.returns-clause-text
returns-clause-text c =
    let t = c.args.system.now in
    let place = c.args.place in
    let from : c.element_name-from.result.now ≡ element_name t.flat (pair_at t place.1).from =
    grind (arith, common_steps, c.element_name-from.ensures, c.pair-pair.ensures.value) in
    let to : c.element_name-to.result.now ≡ element_name t.flat (pair_at t place.1).to =
    grind (arith, common_steps, c.element_name-to.ensures, c.pair-pair.ensures.value) in
    let delay_fits : SFits w64 c.delay.result = search rules in
    let slack_fits : SFits w64 place.0 = search rules in
    let delay = ap numeral_of (to_z-of_z w64 c.delay.result delay_fits ∙ c.delay.ensures) in
    let slack = ap numeral_of (to_z-of_z w64 place.0 slack_fits) in
    on_ok_weaker c.put_row.result
    (λ e. e ∙ ap (λ row. text_so_far c.args.records.now ++ row_text by_rfc row) (four_fields from to delay slack))
    c.put_row.ensures.text
