use Rattle.std.proofs.Common.{◌++◌, List, ℕ, ap, ◌∙◌, sym}
use Rattle.std.specs.Prelude.{codes}
use Rattle.std.proofs.lemmas.Result.{on_ok_weaker}
use Rattle.mintcx_picture.specs.declared.forms.Paint.{Paint}
use Rattle.mintcx_picture.specs.Attributes.{worded}
use Rattle.mintcx_picture.specs.Forms.{paint_text}
use Rattle.mintcx_picture.proofs.writing.put_paint.Goals as goal

pub returns-in-Outlined : goal.returns-in-Outlined
returns-in-Outlined c =
    on_ok_weaker c.put_worded-in-Outlined.result
    (λ e. e ∙ ap (λ (v : List ℕ). c.args.lines.now ++ worded (codes " fill=\"none\" stroke=\"") v) c.code-in-Outlined.ensures
    ∙ ap (λ (p : Paint). c.args.lines.now ++ paint_text p) (sym c.in-Outlined.is))
    c.put_worded-in-Outlined.ensures
