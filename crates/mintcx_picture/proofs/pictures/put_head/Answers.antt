use Rattle.std.specs.Prelude.{codes}
use Rattle.std.proofs.lemmas.Result.{on_ok_weaker}
use Rattle.mintcx_picture.specs.Pictures.{about_text, paper_text, size_text}
use Rattle.mintcx_picture.proofs.WrittenLaws.{in_five}
use Rattle.mintcx_picture.proofs.pictures.put_head.Goals as goal

pub returns : goal.returns
returns c =
    on_ok_weaker c.put_paper.result
    (λ e. in_five c.args.lines.now c.put.new.self c.put_size.new.lines c.put-2.new.self c.put_about.new.lines c.put_paper.new.lines
    (codes "<?xml version=\"1.0\" encoding=\"UTF-8\"?>\n<svg xmlns=\"http://www.w3.org/2000/svg\"") (size_text c.args.head.now.width c.args.head.now.height) (codes " role=\"img\" font-family=\"DejaVu Sans Mono, Menlo, Consolas, Liberation Mono, monospace\">\n") (about_text c.args.head.now.title c.args.head.now.about) (paper_text c.args.head.now.width c.args.head.now.height)
    c.in_ok-put.ensures.ok c.in_ok-put_size.ensures c.in_ok-put-2.ensures.ok c.in_ok-put_about.ensures e)
    c.put_paper.ensures
