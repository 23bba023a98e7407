-- A step of the search raises its lower end, and leaves it within.
use Rattle.std.proofs.Common.{◌≡◌, ◌≤◌, ◌*◌, ◌+◌, ℕ, ℤ, pos, ◌+ℤ◌, ◌-ℤ◌, ◌*ℤ◌, ◌≤ℤ◌, ◌<ℤ◌, arith, ap, ◌∙◌, ⊎_elim}
use Rattle.std.proofs.lemmas.Int.{ints}
use Rattle.std.proofs.lemmas.Nat.{mul-le}
use Rattle.mintc_fraction.proofs.SharedProducts.{times-assoc}
use Rattle.std.proofs.Math.IntN.{*ℤ_comm}
use Rattle.mintc_fraction.specs.Ratio.{over}
use Rattle.mintc_timing.specs.Links.{delay_of, cycles_of}
use Rattle.mintc_timing.proofs.SharedProducts.{times-mono, times-mono_positive, times-cancel_positive, swap-times, add-times}
use Rattle.mintc_constraints.specs.Ordinary.{Constraints, IsOrdinary}
use Rattle.mintc_constraints.specs.Rooms.{Space}
use Rattle.mintc_ratio.specs.declared.sums.Sums.{Sums}
use Rattle.mintc_ratio.specs.Chains.{links_at}
use Rattle.mintc_ratio.specs.Climbing.{IsHeld, IsHigh, IsLow, IsSteeper, grid_of, top_of}
use Rattle.mintc_ratio.specs.Tested.{NoneForbids}
use Rattle.mintc_ratio.proofs.GridLaws.{grid_some}
use Rattle.mintc_ratio.proofs.SharedSumsLaws.{small-named}
use Rattle.mintc_ratio.proofs.TurnLaws.{product_low, int_cases}

times_one : (z : ℤ) → pos 1 *ℤ z ≡ z
times_one z = omega (arith, ints)

positive_product : (m k : ℕ) → 1 ≤ m → 1 ≤ k → pos 1 ≤ℤ (pos m *ℤ pos k)
positive_product m k h g = let p : 1 * 1 ≤ m * k = mul-le 1 1 m k h g in omega (arith, ints)

small_product : (m k l : ℕ) → m ≤ l → k ≤ l → (pos m *ℤ pos k) ≤ℤ pos (l * l)
small_product m k l h g = let p : m * k ≤ l * l = mul-le m k l l h g in omega (arith, ints)

twice_square : (m : ℕ) → 1 ≤ m → pos (2 * m * m) ≤ℤ pos (m * m) → ⊥
twice_square m h k = let p : 1 * 1 ≤ m * m = mul-le 1 1 m m h h in let q : 2 * m * m ≡ m * m + m * m = grind arith in omega (arith, ints)

top_is : (m : ℕ) → pos (m * 2000000000) *ℤ pos (2 * m * m) ≡ pos (4000000000 * m * m * m)
top_is m = let e : m * 2000000000 * (2 * m * m) ≡ 4000000000 * m * m * m = grind arith in ap (λ (k : ℕ). pos k) e

-- the numbers of a chain that is held, in its sums
held_high : (list : Constraints) (room : Space) (held : Sums) (high : ℤ) → IsHeld list room held → IsHigh list high → (held.delay *ℤ grid_of list.nodes) ≤ℤ (pos held.cycles *ℤ high)
held_high list room held high is top =
    let turns = is.turns in
    let some : pos 1 ≤ℤ cycles_of (links_at list.links room.chain) = rw is.has_sums.cycles (omega (arith, ints)) in
    rw (is.has_sums.delay, is.has_sums.cycles) at (top room.chain is.chain some)

-- The low part of the grid is from 0 to the high one.
pub low_inside : (list : Constraints) (room : Space) (held : Sums) (high low : ℤ) → IsHeld list room held → IsHigh list high → IsLow list.nodes held low → (pos 0 ≤ℤ low) × (low ≤ℤ high)
low_inside list room held high low is top floor =
    let turns = is.turns in
    let cycles : pos 1 ≤ℤ pos held.cycles = omega (arith, ints) in
    let product = product_low held.delay (grid_of list.nodes) is.low (omega (arith, ints)) in
    let zero_low = floor.greatest (pos 0) (omega (arith, ints)) in
    let above = held_high list room held high is top in
    let below = floor.low in
    let turned : pos held.cycles *ℤ high ≡ high *ℤ pos held.cycles = *ℤ_comm (pos held.cycles) high in
    (zero_low, times-cancel_positive low high (pos held.cycles) cycles (omega (arith, ints)))

-- A steeper chain has no lower part.
pub low_rises : (nodes : ℕ) (held sums : Sums) (low next : ℤ) → 1 ≤ held.cycles → 1 ≤ sums.cycles → IsLow nodes held low → IsLow nodes sums next → IsSteeper held sums → 1 ≤ nodes → low ≤ℤ next
low_rises nodes held sums low next some turns floor other steeper nodes_some =
    let grid = grid_of nodes in
    let c : ℤ = pos held.cycles in let t : ℤ = pos sums.cycles in
    let c_some : pos 1 ≤ℤ c = omega (arith, ints) in let t_some : pos 1 ≤ℤ t = omega (arith, ints) in
    let fine = grid_some nodes nodes_some in
    let grid_positive : pos 1 ≤ℤ grid = omega (arith, ints) in
    let one = times-mono_positive (low *ℤ c) (held.delay *ℤ grid) t floor.low t_some in
    let two : ((held.delay *ℤ t) *ℤ grid) ≤ℤ ((sums.delay *ℤ c) *ℤ grid) = times-mono_positive (held.delay *ℤ t) (sums.delay *ℤ c) grid (omega (arith, ints)) grid_positive in
    let a : (low *ℤ c) *ℤ t ≡ (low *ℤ t) *ℤ c = swap-times low c t in
    let b : (held.delay *ℤ grid) *ℤ t ≡ (held.delay *ℤ t) *ℤ grid = swap-times held.delay grid t in
    let d : (sums.delay *ℤ c) *ℤ grid ≡ (sums.delay *ℤ grid) *ℤ c = swap-times sums.delay c grid in
    let product : ((low *ℤ t) *ℤ c) ≤ℤ ((sums.delay *ℤ grid) *ℤ c) = omega (arith, ints) in
    other.greatest low (times-cancel_positive (low *ℤ t) (sums.delay *ℤ grid) c c_some product)

-- A chain that forbids a part of the grid has that low part or a greater one.
pub low_halved : (nodes : ℕ) (sums : Sums) (middle next : ℤ) → IsLow nodes sums next → (middle *ℤ pos sums.cycles) <ℤ (sums.delay *ℤ grid_of nodes) → middle ≤ℤ next
low_halved nodes sums middle next floor above = floor.greatest middle (omega (arith, ints))

-- A part of the grid that no chain forbids is high.
pub high_free : (list : Constraints) (middle : ℤ) → NoneForbids list.links (over middle (grid_of list.nodes)) → IsHigh list middle
high_free list middle none chain named turns =
    let cycles = cycles_of (links_at list.links chain) in
    let delay = delay_of (links_at list.links chain) in
    ⊎_elim (λ forbids. absurd (none (links_at list.links chain) named.chain forbids)) (λ h. h) (int_cases (cycles *ℤ middle) (delay *ℤ grid_of list.nodes))

-- The top of the grid is high.
pub high_top : (list : Constraints) → IsOrdinary list → IsHigh list (top_of list.nodes)
high_top list ordinary chain named turns =
    let n = list.nodes in
    let cycles = cycles_of (links_at list.links chain) in
    let delay = delay_of (links_at list.links chain) in
    let grid_low : pos 0 ≤ℤ grid_of n = omega (arith, ints) in
    let small = small-named n list.links ordinary chain named in
    let top : pos (n * 2000000000) *ℤ grid_of n ≡ top_of n = top_is n in
    let one : (delay *ℤ grid_of n) ≤ℤ (pos (n * 2000000000) *ℤ grid_of n) = times-mono delay (pos (n * 2000000000)) (2 * n * n) small in
    let two : (pos 1 *ℤ top_of n) ≤ℤ (cycles *ℤ top_of n) = times-mono (pos 1) cycles (4000000000 * n * n * n) turns in
    let unit : pos 1 *ℤ top_of n ≡ top_of n = omega (arith, ints) in
    omega (arith, ints)

-- Two parts of the grid that are next to one another have no two chains of different ratios between them.
pub gap : (list : Constraints) → (old room : Space) (held sums : Sums) (high low : ℤ) → 3 ≤ list.nodes → IsHeld list old held → IsHeld list room sums → IsHigh list high → IsLow list.nodes held low → (high -ℤ low) ≤ℤ pos 1 → IsSteeper held sums → ⊥
gap list old room held sums high low nodes is other top floor near steeper =
    let n = list.nodes in
    let grid = grid_of n in
    let c : ℤ = pos held.cycles in let t : ℤ = pos sums.cycles in
    let some = is.turns in let turns = other.turns in
    let c_some : pos 1 ≤ℤ c = omega (arith, ints) in let t_some : pos 1 ≤ℤ t = omega (arith, ints) in
    let fine = grid_some n (omega arith) in
    let grid_positive : pos 1 ≤ℤ grid = omega (arith, ints) in
    let above = times-mono_positive (sums.delay *ℤ grid) (t *ℤ high) c (held_high list room sums high other top) c_some in
    let below = times-mono_positive (low *ℤ c) (held.delay *ℤ grid) t floor.low t_some in
    let between : ((held.delay *ℤ t +ℤ pos 1) *ℤ grid) ≤ℤ ((sums.delay *ℤ c) *ℤ grid) = times-mono_positive (held.delay *ℤ t +ℤ pos 1) (sums.delay *ℤ c) grid (omega (arith, ints)) grid_positive in
    let split : (held.delay *ℤ t +ℤ pos 1) *ℤ grid ≡ (held.delay *ℤ t) *ℤ grid +ℤ pos 1 *ℤ grid = add-times (held.delay *ℤ t) (pos 1) grid in
    let unit : pos 1 *ℤ grid ≡ grid = omega (arith, ints) in
    let a : (sums.delay *ℤ grid) *ℤ c ≡ (sums.delay *ℤ c) *ℤ grid = swap-times sums.delay grid c in
    let b : (held.delay *ℤ grid) *ℤ t ≡ (held.delay *ℤ t) *ℤ grid = swap-times held.delay grid t in
    let d : (low *ℤ c) *ℤ t ≡ low *ℤ (c *ℤ t) = times-assoc low c t in
    let e : (t *ℤ high) *ℤ c ≡ high *ℤ (c *ℤ t) = ap (λ v. v *ℤ c) (*ℤ_comm t high) ∙ times-assoc high t c ∙ ap (λ v. high *ℤ v) (*ℤ_comm t c) in
    let product : pos 1 ≤ℤ (c *ℤ t) = positive_product held.cycles sums.cycles some turns in
    let step : (high *ℤ (c *ℤ t)) ≤ℤ ((low +ℤ pos 1) *ℤ (c *ℤ t)) = times-mono_positive high (low +ℤ pos 1) (c *ℤ t) (omega (arith, ints)) product in
    let more : (low +ℤ pos 1) *ℤ (c *ℤ t) ≡ low *ℤ (c *ℤ t) +ℤ pos 1 *ℤ (c *ℤ t) = add-times low (pos 1) (c *ℤ t) in
    let one : pos 1 *ℤ (c *ℤ t) ≡ c *ℤ t = times_one (c *ℤ t) in
    let small : (c *ℤ t) ≤ℤ pos (n * n) = small_product held.cycles sums.cycles n is.small.cycles other.small.cycles in
    let narrow : grid ≤ℤ pos (n * n) = omega (arith, ints) in
    twice_square n (omega arith) narrow
