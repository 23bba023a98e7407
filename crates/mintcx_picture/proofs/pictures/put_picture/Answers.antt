use Rattle.std.specs.Prelude.{codes}
use Rattle.std.proofs.lemmas.Result.{on_ok_weaker}
use Rattle.mintcx_picture.specs.Pictures.{head_text, layer_text}
use Rattle.std.specs.Prelude.{flat_map}
use Rattle.mintcx_picture.proofs.WrittenLaws.{in_three}
use Rattle.mintcx_picture.proofs.pictures.put_picture.Goals as goal

pub returns : goal.returns
returns c =
    on_ok_weaker c.put.result
    (λ e. in_three c.args.lines.now c.put_head.new.lines c.put_layers.new.lines c.put.new.self
    (head_text c.args.head.now) (flat_map layer_text c.args.layers.now) (codes "</svg>\n")
    c.in_ok-put_head.ensures c.in_ok-put_layers.ensures e)
    c.put.ensures.ok
