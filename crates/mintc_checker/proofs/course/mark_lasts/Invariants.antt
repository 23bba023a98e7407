use Rattle.std.proofs.Common.{◌≡◌, ◌≢◌, ◌<◌, ◌≤◌, ◌↔◌, ℕ, IsTrue, false, get_or, length}
use Rattle.mintc_checker.specs.Course.{step_at, IsMarked}
use Rattle.mintc_checker.proofs.course.mark_lasts.Given as goal

-- the steps from here on are marked, and the bits that they leave are known
abbrev pub invariant-loop-place : goal.invariant-loop-place
invariant-loop-place l = record {
  count : length l.lasts ≡ length l.steps;
  inside : length l.are_left ≡ length l.fn.are_left;
  left : (bit : ℕ) → IsTrue (get_or l.are_left bit false) ↔ ((j : ℕ) × (l.place ≤ j) × (j < length l.steps) × ((step_at l.steps j).from ≡ bit));
  marks : (i : ℕ) → l.place ≤ i → i < length l.steps → (IsMarked l.lasts i ↔ ((j : ℕ) → i < j → j < length l.steps → (step_at l.steps j).from ≢ (step_at l.steps i).from));
}
