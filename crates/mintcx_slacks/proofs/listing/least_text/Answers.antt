use Rattle.std.proofs.Common.{◌≡◌, ap, ◌∙◌}
use Rattle.std.proofs.lemmas.Result.{IfOk-weaker}
use Rattle.mintcx_slacks.specs.Slacks.{least_text}
use Rattle.mintcx_slacks.proofs.SharedPlaceLaws.{by_slack_inside}
use Rattle.mintcx_slacks.proofs.listing.least_text.Goals as goal

pub places_text-requires-clause-places : goal.places_text-requires-clause-places
places_text-requires-clause-places c = rw c.deref.ensures.value (by_slack_inside c.args.extra.now c.in_ok-places.places.items _ c.in_ok-places.ensures c.requires.count)

pub returns : goal.returns
returns c =
    IfOk-weaker c.places_text.result _ _
    (λ text e. (c.in_ok-places.places.items, c.in_ok-places.ensures, e ∙ ap (least_text c.args.system.now c.args.cycle.now c.args.extra.now c.args.view.now) c.deref.ensures.value))
    c.places_text.ensures
