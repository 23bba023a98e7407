use Rattle.std.proofs.Common.{◌∷◌, [], ◌++◌, List, ap, ◌∙◌}
use Rattle.mintcx_chart.specs.declared.lanes.Lane.{Lane}
use Rattle.mintcx_fares.proofs.FareLaws.{grown}
use Rattle.mintcx_fares.proofs.drawing.push_item.Goals as goal

pub returns : goal.returns
returns c =
    grown c.args.told.now.flat.now c.args.fares.now _ c.args.item c.in_ok-source.source c.in_ok-element.element c.requires.item c.in_ok-source.ensures.lane c.in_ok-element.ensures.lane
    c.in_ok-source.ensures.name c.in_ok-element.ensures.name c.in_ok-push-3.ensures.items
    (c.in_ok-push-2.ensures.items ∙ ap (λ (v : List Lane). v ++ c.in_ok-element.element ∷ []) c.in_ok-push.ensures.items)
