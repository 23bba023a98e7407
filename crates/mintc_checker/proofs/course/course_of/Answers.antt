use Rattle.std.proofs.Common.{◌≡◌, ◌≢◌, length, arith, ⊎_elim, sym, subst}
use Rattle.std.specs.Vec.{with_items}
use Rattle.std.proofs.lemmas.Bool.{cases_eq}
use Rattle.std.proofs.lemmas.Grind.{common_steps}
use Rattle.std.proofs.lemmas.List.{with_items_is}
use Rattle.mintc_checker.specs.Course.{moved, place_at, step_at, AreSteps, IsOutput}
use Rattle.mintc_checker.proofs.Placing.{length-moved, moved_between, moved_enters, moved_ordered}
use Rattle.mintc_checker.proofs.Sharing.{ArePlaces-alike}
use Rattle.mintc_checker.proofs.course.course_of.Goals as goal

pub lasts_of-requires : goal.lasts_of-requires
lasts_of-requires c =
    let is : c.deref.result.now ≡ moved c.args.flat.now.arcs c.args.order.now = grind (arith, common_steps) in
    rw is (λ i low. (moved_between c.args.flat.now c.bit_count.ensures.kept c.args.order.now c.requires c.bit_count-2.result c.bit_count-2.ensures.value i low).from)

pub place_all-requires-clause-arcs : goal.place_all-requires-clause-arcs
place_all-requires-clause-arcs c =
    let is : c.deref_mut.result.now ≡ moved c.args.flat.now.arcs c.args.order.now = grind (arith, common_steps) in
    rw is (moved_ordered c.args.flat.now c.elements-elements.ensures.kept c.args.order.now c.requires _ (grind (arith, common_steps)))

pub place_all-requires-clause-entered : goal.place_all-requires-clause-entered
place_all-requires-clause-entered c =
    let is : c.deref_mut.result.now ≡ moved c.args.flat.now.arcs c.args.order.now = grind (arith, common_steps) in
    rw is (λ i low. ⊎_elim
    (λ (none : place_at c.enter_outputs.new.places.of_bits.items (step_at (moved c.args.flat.now.arcs c.args.order.now) i).to ≡ 0). none)
    (λ some. absurd (moved_enters c.args.flat.now c.elements-elements.ensures.kept c.args.order.now c.requires i low (c.enter_outputs.ensures.others _ some)))
    (cases_eq (place_at c.enter_outputs.new.places.of_bits.items (step_at (moved c.args.flat.now.arcs c.args.order.now) i).to) 0))

pub returns : goal.returns
returns c =
    let arcs = moved c.args.flat.now.arcs c.args.order.now in
    let was : c.deref_mut.result.now ≡ arcs = grind (arith, common_steps) in
    let read : c.deref.result.now ≡ arcs = grind (arith, common_steps) in
    let marks : c.deref-2.result.now ≡ c.in_ok-lasts.lasts.items = c.deref-2.ensures.value in
    let h = rw (was, marks, length-moved c.args.flat.now.arcs c.args.order.now) at c.in_ok-place_all.ensures in
    let count : length c.place_all.new.steps ≡ length c.add_arcs.new.steps.items = grind (arith, common_steps) in
    let back : (with_items c.add_arcs.new.steps c.place_all.new.steps).items ≡ c.place_all.new.steps = with_items_is c.add_arcs.new.steps c.place_all.new.steps (omega (arith, count, c.add_arcs.new.steps.ok.0)) in
    record {
      count = grind (arith, common_steps);
      lasts = rw read at c.in_ok-lasts.ensures;
      places = ArePlaces-alike (λ bit. place_at c.enter_outputs.new.places.of_bits.items bit ≢ 0) (IsOutput (length c.args.flat.now.elements)) arcs c.in_ok-lasts.lasts.items
          (length c.args.order.now) c.place_all.new.places c.enter_outputs.ensures.others c.enter_outputs.ensures.outputs h.places;
      steps = subst (λ xs. AreSteps arcs (length c.args.order.now) c.place_all.new.places.of_bits.items xs) (sym back) h.steps;
    }
