-- Points of the grid on which the search halves.
use Rattle.std.proofs.Common.{◌≡◌, ◌≤◌, ◌*◌, ◌^◌, ℕ, ℤ, pos, ◌≤ℤ◌, ◌+◌, ◌<◌, ◌⊎◌, inl, inr, ⊎_elim, arith, lit<, to_z, of_z, ◌∙◌}
use Rattle.std.specs.Int.{w128}
use Rattle.mintc_fraction.specs.Ratio.{Ratio, over}
use Rattle.mintc_graph_walks.specs.Bounds.{IsWithin}
use Rattle.mintc_ratio.proofs.Weights.{fits_128}
use Rattle.std.proofs.lemmas.Int.{ints, to_z-of_z}
use Rattle.std.proofs.lemmas.Nat.{mul-le}
use Rattle.std.proofs.lemmas.Bool.{cases_lt}
use Rattle.std.proofs.lemmas.Bool.Decides.{nat_tests}
use Rattle.mintc_ratio.specs.Climbing.{grid_of, most_halvings, most_tests, top_of}

-- how many halvings and tests there are, by the number of nodes
pub sizes : (n : ℕ) → ((n ≤ 2017) × (most_halvings n ≡ 65) × (most_tests n ≡ 68)) ⊎ ((2017 < n) × (most_halvings n ≡ 75) × (most_tests n ≡ 78))
sizes n = ⊎_elim (λ h. inr (h, grind (arith, nat_tests), grind (arith, nat_tests))) (λ h. inl (h, grind (arith, nat_tests), grind (arith, nat_tests))) (cases_lt 2017 n)

top_smaller : (n : ℕ) → n ≤ 2017 → 4000000000 * n * n * n ≤ 2 ^ 65
top_smaller n h =
    let one = mul-le 4000000000 n 4000000000 2017 (omega arith) h in
    let two = mul-le (4000000000 * n) n (4000000000 * 2017) 2017 one h in
    let three = mul-le (4000000000 * n * n) n (4000000000 * 2017 * 2017) 2017 two h in
    omega arith

-- for at most 20,017 nodes the grid and its top are small
pub top_small : (n : ℕ) → n ≤ 20017 → 4000000000 * n * n * n ≤ 2 ^ 75
top_small n h =
    let one = mul-le 4000000000 n 4000000000 20017 (omega arith) h in
    let two = mul-le (4000000000 * n) n (4000000000 * 20017) 20017 one h in
    let three = mul-le (4000000000 * n * n) n (4000000000 * 20017 * 20017) 20017 two h in
    omega arith

-- so many halvings lead from the top to a part of the grid
pub top_halved : (n : ℕ) → n ≤ 20017 → 4000000000 * n * n * n ≤ 2 ^ most_halvings n
top_halved n h = ⊎_elim (λ a. rw a.1 (top_smaller n a.0)) (λ a. rw a.1 (top_small n h)) (sizes n)

-- One test is fewer than all, and with all halvings and one test more there are no more than all.
pub one_test : (n start now : ℕ) → now ≤ start + n + 1 → now ≤ start + most_tests n * (n + 1)
one_test n start now h = ⊎_elim (λ a. rw a.2 (omega arith)) (λ a. rw a.2 (omega arith)) (sizes n)

pub all_tests : (n start now : ℕ) → now ≤ start + n + 1 → now + (most_halvings n + 1) * (n + 1) ≤ start + most_tests n * (n + 1)
all_tests n start now h = ⊎_elim (λ a. rw (a.1, a.2) (omega arith)) (λ a. rw (a.1, a.2) (omega arith)) (sizes n)

-- so few steps were taken that the counter could say them
pub few_steps : (start now tests n : ℕ) → n ≤ 20017 → now + tests ≤ start + most_tests n * (n + 1) → now ≤ start + 2 ^ 21
few_steps start now tests n h g = ⊎_elim (λ a. let few = rw a.2 at g in omega arith) (λ a. let few = rw a.2 at g in omega arith) (sizes n)

pub grid_small : (n : ℕ) → n ≤ 20017 → 2 * n * n ≤ 10 ^ 9
grid_small n h =
    let one = mul-le 2 n 2 20017 (omega arith) h in
    let two = mul-le (2 * n) n (2 * 20017) 20017 one h in
    omega arith

pub grid_some : (n : ℕ) → 1 ≤ n → 2 ≤ 2 * n * n
grid_some n h =
    let one = mul-le 2 1 2 n (omega arith) h in
    let two = mul-le 2 1 (2 * n) n (omega arith) h in
    omega arith

-- the cycle time of so many parts of the grid, as the code makes it
pub grid_point : (m n : ℕ) (middle grid : ℤ) (at : Ratio) → m ≡ n → grid ≡ grid_of m → n ≤ 20017 → pos 0 ≤ℤ middle → middle ≤ℤ top_of n → at ≡ over (to_z w128 (of_z w128 middle)) (to_z w128 (of_z w128 grid)) → at ≡ over middle (grid_of n)
grid_point m n middle grid at e f few low high is =
    let top = top_small n few in
    let parts = grid_small n few in
    let point : IsWithin (2 ^ 75) middle = (omega (arith, ints), omega (arith, ints)) in
    let fine : IsWithin (10 ^ 9) (grid_of n) = (omega (arith, ints), omega (arith, ints)) in
    is ∙ rw (to_z-of_z w128 middle (fits_128 (2 ^ 75) middle (lit< tt) point), f, e, to_z-of_z w128 (grid_of n) (fits_128 (10 ^ 9) (grid_of n) (lit< tt) fine))

-- the top, as the code reads it
pub read_top : (m n : ℕ) (top : ℤ) → m ≡ n → n ≤ 20017 → top ≡ top_of m → to_z w128 (of_z w128 top) ≡ top_of n
read_top m n top e few is =
    let small = top_small n few in
    let within : IsWithin (2 ^ 75) (top_of n) = (omega (arith, ints), omega (arith, ints)) in
    rw (is, e) (to_z-of_z w128 (top_of n) (fits_128 (2 ^ 75) (top_of n) (lit< tt) within))
