use Rattle.std.proofs.Common.{◌≡◌, ◌++◌, ◌∙◌, ap}
use Rattle.std.proofs.lemmas.Result.{on_ok_weaker}
use Rattle.mintcx_refusals.specs.Messages.{line_text}
use Rattle.mintcx_refusals.proofs.WrittenLaws.{excerpt_written}
use Rattle.mintcx_refusals.proofs.writing.put_excerpt.Goals as goal

pub returns : goal.returns
returns c =
    let e = c.args.excerpt.now in
    let number = c.in_ok-number.number in
    let line : c.put_line.new.lines ≡ c.put_arrow.new.lines ++ line_text number e.line =
    c.in_ok-put_line.ensures
    ∙ ap (λ n. c.put_arrow.new.lines ++ line_text n c.items-2.result.now) c.items.ensures
    ∙ ap (λ l. c.put_arrow.new.lines ++ line_text number l) c.items-2.ensures in
    on_ok_weaker c.put_marks.result
    (λ done. excerpt_written c.args.lines.now c.args.name.now c.args.label.now e number c.args.margin c.in_ok-number.ensures
    c.in_ok-put_arrow.ensures line done)
    c.put_marks.ensures
