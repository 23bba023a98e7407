use Rattle.std.proofs.Common.{◌≡◌, ◌++◌, take}
use Rattle.std.specs.Prelude.{flat_map}
use Rattle.mintcx_picture.specs.Pictures.{layer_text}
use Rattle.mintcx_picture.proofs.pictures.put_layers.Given as goal

-- the texts of the items so far are written
abbrev pub invariant-loop-layer : goal.invariant-loop-layer
invariant-loop-layer l = l.lines ≡ l.fn.lines ++ flat_map layer_text (take l.layer-index l.layers)
