use Rattle.mintcx_picture.specs.Forms.{form_text}
use Rattle.mintcx_picture.proofs.WrittenLaws.{items_more}
use Rattle.mintcx_picture.proofs.pictures.put_forms.Goals as goal

pub loop-form-preserved : goal.loop-form-preserved
loop-form-preserved c =
    items_more form_text c.args.forms.now c.loop-form.form-index c.form-item.result c.args.lines.now c.loop-form.lines c.put_form.new.lines
    c.loop-form-test.true c.form-item.is c.loop-form.invariant c.in_ok-put_form.ensures
