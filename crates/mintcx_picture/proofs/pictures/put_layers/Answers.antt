use Rattle.std.proofs.Common.{◌++◌, ap, ◌∙◌}
use Rattle.mintcx_picture.specs.Pictures.{layer_text}
use Rattle.mintcx_picture.proofs.WrittenLaws.{items_more}
use Rattle.mintcx_picture.proofs.pictures.put_layers.Goals as goal

pub loop-layer-preserved : goal.loop-layer-preserved
loop-layer-preserved c =
    items_more layer_text c.args.layers.now c.loop-layer.layer-index c.layer-item.result c.args.lines.now c.loop-layer.lines c.put_forms.new.lines
    c.loop-layer-test.true c.layer-item.is c.loop-layer.invariant (c.in_ok-put_forms.ensures ∙ ap (λ v. c.loop-layer.lines ++ layer_text v) c.items.ensures)
