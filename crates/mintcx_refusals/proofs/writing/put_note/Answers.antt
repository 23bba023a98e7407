use Rattle.std.proofs.Common.{◌++◌, ◌∙◌, ap}
use Rattle.std.proofs.lemmas.Result.{on_ok_weaker}
use Rattle.mintcx_refusals.specs.Messages.{note_text, own_line}
use Rattle.mintcx_refusals.proofs.writing.put_note.Goals as goal

pub returns : goal.returns
returns c =
    let old = c.args.lines.now in
    let refused = c.args.refusal.now in
    on_ok_weaker c.put_note_text.result
    (λ e. e ∙ ap (λ own. old ++ note_text own c.refusal_number.result) (c.items.ensures ∙ c.in_ok-own.ensures)
    ∙ ap (λ n. old ++ note_text (own_line refused) n) c.refusal_number.ensures)
    c.put_note_text.ensures
