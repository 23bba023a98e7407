-- Numerators at a cycle time of the search are small.
use Rattle.std.proofs.Common.{◌≡◌, ℕ, zero, suc, ◌≤◌, ◌*◌, ℤ, pos, negsuc, ◌≤ℤ◌, ◌+ℤ◌, ◌-ℤ◌, ◌*ℤ◌, arith, w64, to_z, of_z, unsigned_abs}
use Rattle.std.specs.Int.{w128}
use Rattle.std.proofs.lemmas.Int.{ints, to_z-of_z, by_lt_z}
use Rattle.mintc_fraction.specs.Ratio.{Ratio, over, IsFloor}
use Rattle.mintc_timing.specs.declared.link.Link.{Link}
use Rattle.mintc_ratio.specs.Greatest.{asked_by_link}
use Rattle.mintc_slack.specs.Short.{IsShortCycle}
use Rattle.mintc_graph_walks.specs.Bounds.{IsWithin}
use Rattle.mintc_graph_walks.proofs.SharedWithin.{IsWithin-product, abs_within}
use Rattle.mintc_slack.specs.PairRoom.{IsWhole}

-- what a link asks for
laps-small : (c : ℕ) (num : ℤ) → c ≤ 1 → IsWithin 4040000000000 num → IsWithin 4040000000000 (pos c *ℤ num)
laps-small zero num h k = let none : pos 0 *ℤ num ≡ pos 0 = omega (arith, ints) in rw none (omega (arith, ints), omega (arith, ints))
laps-small (suc zero) (pos n) h k = (omega (arith, ints), omega (arith, ints))
laps-small (suc zero) (negsuc n) h k = (omega (arith, ints), omega (arith, ints))
laps-small (suc (suc c)) num h k = absurd (omega arith)

pub asked_small : (cycle : Ratio) (k : Link) → IsShortCycle cycle → IsWithin 4000000000 k.delay → k.cycles ≤ 1 → IsWithin 13000000000000 (asked_by_link cycle k)
asked_small cycle k is delay laps =
    let product = IsWithin-product 4000000000 2017 k.delay cycle.den delay (omega (arith, ints), omega (arith, ints)) in
    let turns = laps-small k.cycles cycle.num laps (omega (arith, ints), omega (arith, ints)) in
    (omega (arith, ints), omega (arith, ints))

-- numbers that are read from 128 bits and from 64
abbrev pub wide : ℤ → ℤ
wide x = to_z w128 (of_z w128 x)

pub read_wide : (x : ℤ) → IsWithin 1000000000000000000 x → wide x ≡ x
read_wide x h = to_z-of_z w128 x (omega (arith, ints))

abbrev pub narrow : ℤ → ℤ
narrow x = to_z w64 (of_z w64 x)

pub read_narrow : (x : ℤ) → IsWithin 1000000000000000000 x → narrow x ≡ x
read_narrow x h = to_z-of_z w64 x (omega (arith, ints))

pub larger : (a b : ℕ) (x : ℤ) → a ≤ b → IsWithin a x → IsWithin b x
larger a b x h k = (omega (arith, ints), omega (arith, ints))

pub less-read : (x y z : ℤ) → IsWithin 30000000000000000 x → IsWithin 30000000000000000 y → IsWithin 100000000000000000 z → wide x -ℤ wide y -ℤ wide z ≡ x -ℤ y -ℤ z
less-read x y z a b c =
    let first = read_wide x (larger _ _ x (omega arith) a) in
    let second = read_wide y (larger _ _ y (omega arith) b) in
    let third = read_wide z (larger _ _ z (omega arith) c) in
    omega (arith, ints)

-- the greatest whole number at most a fraction
times-one : (x : ℤ) → x *ℤ pos 1 ≡ x
times-one (pos n) = omega (arith, ints)
times-one (negsuc n) = omega (arith, ints)

pub floor-whole : (at : Ratio) (x u : ℤ) → IsFloor (over x at.den) (pos 1) u → IsWhole at x u
floor-whole at x u floor =
    let one = times-one x in
    record {
      fits = omega (arith, ints);
      most = by_lt_z x ((u +ℤ pos 1) *ℤ at.den) (λ h. h)
          (λ less. let most = floor.greatest (u +ℤ pos 1) (omega (arith, ints)) in absurd (omega (arith, ints)));
    }

within-abs : (b : ℕ) (x : ℤ) → unsigned_abs x ≤ b → IsWithin b x
within-abs b (pos n) h = (omega (arith, ints), omega (arith, ints))
within-abs b (negsuc n) h = (omega (arith, ints), omega (arith, ints))

-- which is small
pub floor-small : (x num u : ℤ) → IsWithin 400000000000000000 x → num ≡ x → ((n k : ℕ) → unsigned_abs num ≤ n → pos 1 ≤ℤ pos k → unsigned_abs u ≤ n * k) → IsWithin 1000000000000000000 u
floor-small x num u small is bound =
    within-abs 1000000000000000000 u (let most = bound 400000000000000000 1 (rw is (abs_within 400000000000000000 x small)) (omega (arith, ints)) in omega arith)
