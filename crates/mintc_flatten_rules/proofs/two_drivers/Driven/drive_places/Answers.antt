use Rattle.std.proofs.Common.{◌+◌, ◌++◌, ℕ, List, None, false, drop, take, get_or, ap, subst, ◌∙◌}
use Rattle.std.proofs.lemmas.List.{take_all}
use Rattle.std.specs.Option.{option_to_list}
use Rattle.mintc_flatten_rules.specs.Driving.{Drives}
use Rattle.mintc_flatten_rules.proofs.DriveLaws.{driven_places, step_again, step_passed, places_at, places_whole}
use Rattle.mintc_flatten_rules.proofs.two_drivers.Driven.drive_places.Goals as goal

pub returns-then-branch : goal.returns-then-branch
returns-then-branch c =
    let ps = c.args.places.now in
    let n = c.loop-place.place-index in
    step_again c.args.self.now c.loop-place.self c.drive_place.new.self (driven_places (take n ps)) (option_to_list (get_or ps n None)) (driven_places (drop (n + 1) ps)) (driven_places ps) c.in_ok-drive_place.field-0
    (places_whole ps (n + 1) ∙ ap (λ (l : List ℕ). l ++ driven_places (drop (n + 1) ps)) (places_at ps n None c.loop-place-test.true)) c.loop-place.invariant c.in_ok-drive_place.ensures.again c.if-branch.true

pub loop-place-preserved : goal.loop-place-preserved
loop-place-preserved c =
    let ps = c.args.places.now in
    let n = c.loop-place.place-index in
    step_passed c.args.self.now c.loop-place.self c.drive_place.new.self (driven_places (take n ps)) (option_to_list (get_or ps n None)) (driven_places (take (n + 1) ps)) c.in_ok-drive_place.field-0
    (places_at ps n None c.loop-place-test.true) c.loop-place.invariant c.in_ok-drive_place.ensures.again c.if-branch.false

pub returns : goal.returns
returns c = subst (λ ps. Drives c.args.self.now c.loop-place.self (driven_places ps) false) (take_all c.loop-place.place-index c.args.places.now c.loop-place-test.false) c.loop-place.invariant
