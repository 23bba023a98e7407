use Rattle.std.proofs.Common.{◌≡◌, ◌≢◌, ◌<◌, ◌+◌, ℕ, length, get_or, set, false, arith, ap, refl, ◌∙◌, sym, subst, to_z, of_z, w64}
use Rattle.std.proofs.lemmas.Grind.{common_steps}
use Rattle.mintc_timing.proofs.SharedFitting.{read_time, IsTime-IsDelay}
use Rattle.mintc_checker.specs.declared.course.Places.{Places}
use Rattle.mintc_checker.specs.declared.course.Step.{Step}
use Rattle.mintc_checker.specs.Course.{place_at, step_at, AreSteps, IsEntry, IsExit, IsStep}
use Rattle.mintc_checker.proofs.Placing.{entry_count, entry_given, entry_own, AreSteps-more, AreSteps-none}
use Rattle.mintc_checker.proofs.Sharing.{entered_free, entered_places, entered_some, left_free, left_places, AreFree-none, ArePlaces-first}
use Rattle.mintc_checker.proofs.course.place_all.Goals as goal

pub loop-place-init : goal.loop-place-init
loop-place-init c = record {
  count = refl;
  places = ArePlaces-first c.args.steps.now c.args.lasts.now c.args.places.now c.requires.places;
  free = AreFree-none c.args.steps.now c.args.lasts.now c.args.places.now c.requires.places.none;
  given = omega arith;
  steps = AreSteps-none c.args.steps.now c.args.places.now.of_bits.items;
}

pub loop-place-preserved : goal.loop-place-preserved
loop-place-preserved c =
    let i = c.loop-place.invariant in
    let arcs = c.args.steps.now in
    let lasts = c.args.lasts.now in
    let k : ℕ = c.loop-place.place in
    let low : k < length arcs = grind (arith, common_steps) in
    let old : Places = c.loop-place.places in
    let mid : Places = c.enter-to.new.self in
    let new : Places = c.leave.new.self in
    let arc : step_at c.loop-place.steps k ≡ step_at arcs k = i.steps.rest k (omega arith) in
    let place : ℕ = c.enter-to.result in
    let between = c.requires.arcs.inside k low in
    let inside : (step_at arcs k).to < length old.of_bits.items = omega (arith, between.to, i.count) in
    let entry : IsEntry old mid (step_at arcs k).to place = subst (λ (s : Step). IsEntry old mid s.to place) arc c.enter-to.ensures in
    let exit = c.in_ok-from.ensures in
    let IsFirst : ℕ → Type 0 = λ bit. place_at c.args.places.now.of_bits.items bit ≢ 0 in
    let no_first : IsFirst (step_at arcs k).to → ⊥ = λ some. some (c.requires.entered k low) in
    let placed = entered_places IsFirst arcs lasts c.requires.lasts k low old mid place i.places i.free inside entry no_first in
    let free = entered_free IsFirst arcs lasts c.requires.lasts k low old mid place i.places i.free inside entry no_first in
    let bits_are : new.of_bits.items ≡ mid.of_bits.items = ap (λ b. b.items) exit.of_bits in
    let leaves : IsExit mid new (step_at arcs k).from (get_or lasts k false) = subst (λ (s : Step). IsExit mid new s.from (get_or lasts k false)) arc exit.free in
    let step : Step = record { from = c.in_ok-from.from; to = place; max = to_z w64 (of_z w64 (step_at c.loop-place.steps k).max) } in
    let is : IsStep mid.of_bits.items (step_at arcs k) step = record {
      from = exit.own ∙ ap (λ (s : Step). place_at mid.of_bits.items s.from) arc;
      to = sym (entry_own old mid (step_at arcs k).to place inside entry);
      max = ap (λ (s : Step). to_z w64 (of_z w64 s.max)) arc ∙ read_time (step_at arcs k).max (IsTime-IsDelay _ between.max);
      ends = entered_some IsFirst arcs lasts c.requires.lasts k low old mid place i.places i.free inside entry no_first;
    } in
    record {
      count = ap (λ xs. length xs) bits_are ∙ entry_count old mid (step_at arcs k).to place inside entry ∙ i.count;
      places = left_places IsFirst arcs lasts c.requires.lasts k low mid new (get_or lasts k false) placed free bits_are exit.given leaves (λ marked. marked);
      free = left_free IsFirst arcs lasts c.requires.lasts k low mid new (get_or lasts k false) placed free bits_are exit.given leaves (λ marked. marked);
      given = omega (arith, exit.given, entry_given old mid (step_at arcs k).to place inside entry, i.given);
      steps = subst (λ xs. AreSteps arcs (k + 1) xs (set c.loop-place.steps k step)) (sym bits_are)
          (AreSteps-more (length c.args.places.now.of_bits.items) arcs c.requires.arcs k low old mid place inside entry c.loop-place.steps step i.steps is);
    }
