use Rattle.std.proofs.Common.{ℕ, ℤ, List, sym, subst}
use Rattle.std.specs.Prelude.{All}
use Rattle.std.proofs.lemmas.Result.{on_ok_weaker}
use Rattle.mintcx_fares.specs.Places.{IsPlace}
use Rattle.mintcx_fares.proofs.PlaceLaws.{each_place}
use Rattle.mintcx_fares.proofs.places.push_places.Goals as goal

pub returns-clause-each : goal.returns-clause-each
returns-clause-each c =
    let design = c.args.causes.now.told.system.now.flat in
    let is = λ (v : List (ℕ × ℕ × ℤ × ℕ)). All (IsPlace design) v in
    λ each. on_ok_weaker c.push_place-2.result
    (λ e. subst is (sym e) (each_place design c.push_place.new.places.items c.hold_place.result
    (subst is (sym c.in_ok-push_place.ensures) (each_place design c.args.places.now.items c.setup_place.result each c.setup_place.ensures.place)) c.hold_place.ensures.place))
    c.push_place-2.ensures
