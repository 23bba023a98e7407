use Rattle.std.proofs.Common.{◌≡◌, ◌≢◌, ◌≤◌, ◌+◌, length}
use Rattle.mintc_checker.specs.Course.{place_at, AreFree, ArePlaces, AreSteps}
use Rattle.mintc_checker.proofs.course.place_all.Given as goal

-- the steps so far have places
abbrev pub invariant-loop-place : goal.invariant-loop-place
invariant-loop-place l = record {
  count : length l.places.of_bits.items ≡ length l.fn.places.of_bits.items;
  places : ArePlaces (λ bit. place_at l.fn.places.of_bits.items bit ≢ 0) l.fn.steps l.lasts l.place l.places;
  free : AreFree l.fn.steps l.lasts l.place l.places;
  given : l.places.given ≤ l.fn.places.given + l.place;
  steps : AreSteps l.fn.steps l.place l.places.of_bits.items l.steps;
}
