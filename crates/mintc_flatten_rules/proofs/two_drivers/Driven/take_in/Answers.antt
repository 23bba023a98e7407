use Rattle.std.proofs.Common.{ℕ, List, None, nat_eq, take, get_or, ap, sym, ◌++◌, ◌∙◌}
use Rattle.std.specs.List.{list_any}
use Rattle.std.specs.Option.{option_to_list}
use Rattle.std.proofs.lemmas.List.{take_all}
use Rattle.mintc_flatten_rules.proofs.DriveLaws.{driven_places, takes_on, places_at}
use Rattle.mintc_flatten_rules.proofs.two_drivers.Driven.take_in.Goals as goal

pub loop-place-preserved : goal.loop-place-preserved
loop-place-preserved c = λ place.
    let ps = c.args.places.now in
    let n = c.loop-place.place-index in
    takes_on c.args.self.now c.loop-place.self c.drive_place.new.self (driven_places (take n ps)) (option_to_list (get_or ps n None)) c.loop-place.invariant c.in_ok-drive_place.ensures.taken place
    ∙ ap (λ (l : List ℕ). list_any (nat_eq place) (c.args.self.now ++ l)) (sym (places_at ps n None c.loop-place-test.true))

pub returns : goal.returns
returns c = λ place. c.loop-place.invariant place ∙ ap (λ ps. list_any (nat_eq place) (c.args.self.now ++ driven_places ps)) (take_all c.loop-place.place-index c.args.places.now c.loop-place-test.false)
