use Rattle.mintcx_fares.specs.Places.{place_names}
use Rattle.mintcx_fares.proofs.FareLaws.{fares_more}
use Rattle.mintcx_fares.proofs.drawing.fares_of.Goals as goal

pub loop-place-preserved : goal.loop-place-preserved
loop-place-preserved c =
    let design = c.args.told.now.flat.now in
    let causes = c.args.causes.now in
    let f = place_names causes.told.system.now causes.told.schedule.now causes.late.now causes.early.now in
    fares_more design f c.args.places.now c.loop-place.place-index _ c.loop-place.fares c.push_place.new.fares
    c.loop-place-test.true c.loop-place.invariant c.in_ok-push_place.ensures
