-- How the ends of the search change with a chain that forbids a cycle time.
use Rattle.std.proofs.Common.{◌≡◌, ◌≤◌, ◌+◌, ℤ, pos, negsuc, ◌+ℤ◌, ◌*ℤ◌, ◌≤ℤ◌, ◌<ℤ◌, List, [], ◌∷◌, length, arith, ap, ◌∙◌, sym, ⊎_elim, ◌⊎◌, inl, inr}
use Rattle.std.proofs.lemmas.Int.{ints}
use Rattle.std.proofs.lemmas.Bool.{cases_lt}
use borrow.Author.Differences.{up, down}
use Rattle.std.proofs.Math.IntN.{*ℤ_comm}
use Rattle.mintc_fraction.specs.Ratio.{Ratio}
use Rattle.mintc_timing.specs.declared.link.Link.{Link}
use Rattle.mintc_timing.specs.Links.{delay_of, cycles_of, Forbids}
use Rattle.mintc_timing.proofs.SharedProducts.{times-mono_positive, swap-times, add-times}
use Rattle.mintc_constraints.specs.Ordinary.{Constraints, IsOrdinary}
use Rattle.mintc_constraints.specs.Rooms.{Space}
use Rattle.mintc_ratio.specs.declared.sums.Sums.{Sums}
use Rattle.mintc_ratio.specs.declared.turns.TestResult.{TestResult}
use Rattle.mintc_ratio.specs.declared.turns.TestResult.TheVariants.{Found, Held, Free}
use Rattle.mintc_ratio.specs.Chains.{links_at}
use Rattle.mintc_ratio.specs.Climbing.{IsHeld, IsOfChain, IsJump}
use Rattle.mintc_ratio.specs.Greatest.{AreGreatest}
use Rattle.mintc_ratio.specs.Searched.{IsCycle, IsLeast, IsOfNodes}
use Rattle.mintc_ratio.specs.Tested.{NoneForbids}
use Rattle.mintc_ratio.proofs.SharedSumsLaws.{few_links}

-- a chain's cycles aren't negative
pub cycles_low : (chain : List Link) → pos 0 ≤ℤ cycles_of chain
cycles_low [] = omega (arith, ints)
cycles_low (k ∷ chain) = let more = cycles_low chain in omega (arith, ints)

-- products of numbers that aren't negative
pub product_low : (x y : ℤ) → pos 0 ≤ℤ x → pos 0 ≤ℤ y → pos 0 ≤ℤ (x *ℤ y)
product_low (pos m) (pos n) h k = omega (arith, ints)
product_low (pos m) (negsuc n) h k = absurd (omega (arith, ints))
product_low (negsuc m) y h k = absurd (omega (arith, ints))

one_more : (a b : ℤ) → (a +ℤ pos 1) *ℤ b ≡ a *ℤ b +ℤ b
one_more a b = add-times a (pos 1) b ∙ ap (λ v. a *ℤ b +ℤ v) (times_one b)
  where
    times_one : (z : ℤ) → pos 1 *ℤ z ≡ z
    times_one z = omega (arith, ints)

-- of two numbers the first is below the second, or it isn't
pub int_cases : (x y : ℤ) → (x <ℤ y) ⊎ (y ≤ℤ x)
int_cases x y = ⊎_elim (λ h. inl (omega (arith, ints))) (λ h. inr (omega (arith, ints))) (cases_lt (up x + down y) (up y + down x))

-- a strict order, times a positive number, and the way back
pub times-strict : (x y z : ℤ) → pos 1 ≤ℤ z → x <ℤ y → (x *ℤ z) <ℤ (y *ℤ z)
times-strict x y z p h =
    let more : ((x +ℤ pos 1) *ℤ z) ≤ℤ (y *ℤ z) = times-mono_positive (x +ℤ pos 1) y z (omega (arith, ints)) p in
    let d = one_more x z in
    omega (arith, ints)

pub cancel-strict : (x y z : ℤ) → pos 1 ≤ℤ z → (x *ℤ z) <ℤ (y *ℤ z) → x <ℤ y
cancel-strict x y z p h =
    ⊎_elim (λ k. k) (λ (k : y ≤ℤ x). let q : (y *ℤ z) ≤ℤ (x *ℤ z) = times-mono_positive y x z k p in absurd (omega (arith, ints))) (int_cases x y)

-- a chain that forbids a time that isn't negative takes time
pub forbids-takes : (chain : List Link) (num den : ℤ) → pos 0 ≤ℤ num → pos 1 ≤ℤ den → Forbids chain num den → pos 1 ≤ℤ delay_of chain
forbids-takes chain num den low some h =
    let product = product_low (cycles_of chain) num (cycles_low chain) low in
    let above : (pos 0 *ℤ den) <ℤ (delay_of chain *ℤ den) = omega (arith, ints) in
    let positive = cancel-strict (pos 0) (delay_of chain) den some above in
    omega (arith, ints)

-- a chain that forbids the ratio of sums has a greater one
pub steeper : (a : Ratio) (delay more : ℤ) (cycles turns : ℤ) → pos 1 ≤ℤ a.den → pos 1 ≤ℤ cycles → a.num *ℤ cycles ≡ delay *ℤ a.den → (turns *ℤ a.num) <ℤ (more *ℤ a.den) →
    (delay *ℤ turns) <ℤ (more *ℤ cycles)
steeper a delay more cycles turns p q same h =
    let product = times-strict (turns *ℤ a.num) (more *ℤ a.den) cycles q h in
    let left : (turns *ℤ a.num) *ℤ cycles ≡ (delay *ℤ turns) *ℤ a.den =
    ap (λ v. v *ℤ cycles) (*ℤ_comm turns a.num) ∙ swap-times a.num turns cycles ∙ ap (λ v. v *ℤ turns) same ∙ swap-times delay a.den turns in
    let right : (more *ℤ a.den) *ℤ cycles ≡ (more *ℤ cycles) *ℤ a.den = swap-times more a.den cycles in
    cancel-strict (delay *ℤ turns) (more *ℤ cycles) a.den p (rw (left, right) at product)

-- ---- turns

-- a chain that forbids the ratio that is held, as a turn
pub jump_turn : (list : Constraints) (held : Sums) (a : Ratio) (room : Space) (turn : TestResult) → pos 1 ≤ℤ a.den → 1 ≤ held.cycles → a.num *ℤ pos held.cycles ≡ held.delay *ℤ a.den →
    Forbids (links_at list.links room.chain) a.num a.den → IsOfChain list room turn → IsJump list held room turn
jump_turn list held a room (Found outcome) p q same forbids h = h
jump_turn list held a room (Held sums) p q same forbids h =
    let f : (pos sums.cycles *ℤ a.num) <ℤ (sums.delay *ℤ a.den) = rw (h.has_sums.delay, h.has_sums.cycles) at forbids in
    (h, steeper a held.delay sums.delay (pos held.cycles) (pos sums.cycles) p (omega (arith, ints)) same f)
jump_turn list held a room Free p q same forbids h = h

-- the least cycle time, where no chain forbids the ratio that is held
pub least_held : (list : Constraints) (held : Sums) (a : Ratio) (old new : Space) → IsOrdinary list → IsHeld list old held → IsCycle a → IsOfNodes list.nodes a → a.num *ℤ pos held.cycles ≡ held.delay *ℤ a.den →
    AreGreatest list a new.values → NoneForbids list.links a → (length old.chain ≤ list.nodes → new.chain ≡ old.chain) → IsLeast list a new
least_held list held a old new ordinary is cycle of_nodes same greatest none kept =
    let chain = kept (few_links list.nodes list.links ordinary old.chain is.chain) in
    let turns = is.turns in
    record {
      cycle_is = cycle;
      small = of_nodes;
      none_forbids = none;
      values = greatest;
      chain = rw chain is.chain;
      tight = rw chain (record {
        turns = rw is.has_sums.cycles (omega (arith, ints));
        tight = rw (is.has_sums.delay, is.has_sums.cycles) (sym same ∙ *ℤ_comm a.num (pos held.cycles));
      });
    }
