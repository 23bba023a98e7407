use Rattle.mintcx_judgements.proofs.SharedPlaceLaws.{by_room_inside}
use Rattle.mintcx_csv.proofs.passes.pass_csv.Goals as goal

pub rooms_csv-requires-clause-inside : goal.rooms_csv-requires-clause-inside
rooms_csv-requires-clause-inside c =
    let causes = c.in_ok-causes.causes in
    rw c.deref.ensures.value (by_room_inside causes.told.system.now causes.told.schedule.now causes.late.now c.in_ok-places.places.items c.in_ok-places.ensures)
