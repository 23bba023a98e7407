use Rattle.std.proofs.Common.{◌≤ℤ◌, ℕ, pos, take, ap, subst}
use Rattle.mintc_timing.specs.declared.clocking.Schedule.{Schedule}
use Rattle.mintcx_fares.proofs.DrawnLaws.{picture_drawn}
use Rattle.mintcx_fares.proofs.drawing.places_picture.Goals as goal

pub returns-in-Some : goal.returns-in-Some
returns-in-Some c =
    let causes = c.args.causes.now in
    let told = c.args.told.now in
    let places = c.args.places.now in
    picture_drawn causes.told.system.now causes.told.schedule.now causes.late.now causes.early.now told.flat.now places (take c.min.result places) c.in_ok-fares.fares
    c.in-Some.scale told.unit c.in_ok-text-in-Some.text (subst (λ (s : Schedule). pos 1 ≤ℤ s.cycle) c.requires.schedule c.requires.cycle.0) c.requires.worst
    (ap (λ (n : ℕ). take n places) c.min.ensures) c.in_ok-fares.ensures c.in-Some.ensures.scale c.in_ok-text-in-Some.ensures
