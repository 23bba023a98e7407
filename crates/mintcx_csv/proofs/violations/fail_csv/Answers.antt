use Rattle.mintcx_judgements.proofs.SharedPlaceLaws.{ranked_inside}
use Rattle.mintcx_csv.proofs.violations.fail_csv.Goals as goal

pub ranked_csv-requires-clause-places : goal.ranked_csv-requires-clause-places
ranked_csv-requires-clause-places c = rw c.deref.ensures.value (ranked_inside c.args.violations.now c.in_ok-places.places.items c.in_ok-places.ensures)
