use Rattle.std.proofs.Common.{◌≡◌, ◌++◌, ℤ, false, to_z, of_z, w64, SFits, ap, ◌∙◌, sym, rules}
use Rattle.std.proofs.lemmas.Int.{to_z-of_z}
use Rattle.std.proofs.lemmas.Result.{on_ok_weaker}
use Rattle.mintc_timing.specs.declared.parts.Element.{Element}
use Rattle.mintc_timing.specs.Design.{element_at}
use Rattle.mintcx_reports.specs.Begins.{lent_text, open_text}
use Rattle.mintcx_reports.proofs.BeginLaws.{latch_written}
use Rattle.mintcx_reports.proofs.begins.put_window.Goals as goal

pub returns : goal.returns
returns c =
    let design = c.args.told.now.flat.now in
    let s = c.args.told.now.schedule.now in
    let unit = c.args.told.now.unit in
    let l = c.args.element in
    let row = c.args.row.now in
    let value = c.element-found.ensures.value in
    let latch : (element_at design l).flop ≡ false = sym (ap (λ (x : Element). x.flop) value) ∙ c.if-found.false in
    let fits : SFits w64 row.borrows = search rules in
    on_ok_weaker c.put_lent.result
    (λ e. latch_written design s unit row l c.args.lines.now c.put_open.new.lines c.put_lent.new.lines latch
    (c.in_ok-put_open.ensures ∙ ap (λ (x : Element). c.args.lines.now ++ open_text s unit x.phase row.cycle) value)
    (e ∙ ap (λ (t : ℤ). c.put_open.new.lines ++ lent_text s unit t) (to_z-of_z w64 row.borrows fits)))
    c.put_lent.ensures
