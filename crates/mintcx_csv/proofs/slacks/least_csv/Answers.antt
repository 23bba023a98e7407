use Rattle.std.proofs.Common.{subst}
use Rattle.std.proofs.lemmas.Result.{IfOk-weaker}
use Rattle.mintcx_csv.specs.Slacks.{slack_records}
use Rattle.mintcx_csv.specs.Tables.{IsTable}
use Rattle.mintcx_slacks.proofs.SharedPlaceLaws.{by_slack_inside}
use Rattle.mintcx_csv.proofs.slacks.least_csv.Goals as goal

pub places_csv-requires : goal.places_csv-requires
places_csv-requires c =
    rw c.deref.ensures.value (by_slack_inside c.args.extra.now c.in_ok-places.places.items _ c.in_ok-places.ensures c.requires)

pub returns : goal.returns
returns c =
    IfOk-weaker c.places_csv.result _ _
    (λ text e. (c.in_ok-places.places.items, c.in_ok-places.ensures, subst (λ places. IsTable (slack_records c.args.system.now places) text) c.deref.ensures.value e))
    c.places_csv.ensures
