use Rattle.std.proofs.lemmas.List.Sorted.{All-permutation}
use Rattle.mintcx_fares.specs.Places.{places_at, IsPlace}
use Rattle.mintcx_fares.proofs.PlaceLaws.{places_more}
use Rattle.mintcx_fares.proofs.places.places_of.Goals as goal

pub loop-element-preserved : goal.loop-element-preserved
loop-element-preserved c =
    let causes = c.args.causes.now in
    record {
      items = places_more (places_at causes.told.system.now causes.told.schedule.now causes.late.now causes.early.now) c.loop-element.places.items c.push_places.new.places.items
          c.loop-element.element c.loop-element.invariant.items c.in_ok-push_places.ensures.items;
      each = c.in_ok-push_places.ensures.each c.loop-element.invariant.each;
    }

pub returns-clause-each : goal.returns-clause-each
returns-clause-each c =
    All-permutation (IsPlace c.args.causes.now.told.system.now.flat) c.loop-element.places.items c.sort_unstable.new.self.items c.sort_unstable.ensures.permutation
    c.loop-element.invariant.each
