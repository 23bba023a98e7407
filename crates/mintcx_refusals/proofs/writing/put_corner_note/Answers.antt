use Rattle.std.proofs.Common.{◌++◌, ◌∙◌, ap}
use Rattle.std.specs.Prelude.{codes}
use Rattle.std.proofs.lemmas.Result.{on_ok_weaker}
use Rattle.mintcx_refusals.specs.Messages.{note_text, own_line}
use Rattle.mintcx_refusals.proofs.writing.put_corner_note.Goals as goal

pub returns : goal.returns
returns c =
    let old = c.args.lines.now in
    let both = own_line c.args.corner.now ++ codes "; " ++ own_line c.args.own.now in
    on_ok_weaker c.put_note_text.result
    (λ e. e ∙ ap (λ own. old ++ note_text own c.refusal_number.result) (c.items.ensures ∙ c.in_ok-both.ensures)
    ∙ ap (λ n. old ++ note_text both n) c.refusal_number.ensures)
    c.put_note_text.ensures
