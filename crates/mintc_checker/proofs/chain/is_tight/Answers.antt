use Rattle.std.proofs.Common.{ℤ, pos, ◌*ℤ◌, ◌≤ℤ◌, arith, refl, ap, ◌∙◌, sym, subst}
use Rattle.std.proofs.lemmas.Int.{ints}
use Rattle.mintc_timing.specs.Limits.{IsTime}
use Rattle.mintc_timing.proofs.SharedFitting.{read_time, test_is, IsTime-IsDenominator, IsTime-IsNumerator}
use Rattle.mintc_checker.proofs.Deciding.{alike}
use Rattle.mintc_checker.proofs.Scaled.{scaled_is, equal_bits, delay_fits, turns_fit}
use Rattle.mintc_checker.proofs.chain.is_tight.Goals as goal

pub returns-then-sums-ge1 : goal.returns-then-sums-ge1
returns-then-sums-ge1 c =
    let s = c.args.clocked.now.schedule.now in
    let delay : ℤ = c.sums_of-sums.result.delay in
    let cycles : ℤ = c.sums_of-sums.result.cycles in
    let d_is = c.sums_of-sums.ensures.delay in
    let c_is = c.sums_of-sums.ensures.cycles in
    let d_time : IsTime delay = (omega (arith, ints), omega (arith, ints)) in
    let c_time : IsTime cycles = (omega (arith, ints), omega (arith, ints)) in
    let some : pos 1 ≤ℤ cycles = (test_is _ _ (pos 1) cycles refl (read_time cycles c_time) ((λ h. h), (λ h. h))).0 c.if-sums-ge1.true in
    let product = scaled_is _ delay s.den d_time (IsTime-IsDenominator _ c.args.clocked.now.in_range.den) refl in
    let turns = scaled_is _ cycles s.cycle c_time (IsTime-IsNumerator _ c.args.clocked.now.in_range.cycle) refl in
    alike _ (equal_bits _ _ (delay *ℤ s.den) (cycles *ℤ s.cycle) product turns (delay_fits delay s.den c.sums_of-sums.ensures.delay_range c.args.clocked.now.in_range.den) (turns_fit cycles s.cycle (some, c.sums_of-sums.ensures.cycles_range.1) c.args.clocked.now.in_range.cycle))
    (λ e. record { turns = subst (λ z. pos 1 ≤ℤ z) c_is some; tight = ap (λ z. z *ℤ s.den) (sym d_is) ∙ e ∙ ap (λ z. z *ℤ s.cycle) c_is })
    (λ h. ap (λ z. z *ℤ s.den) d_is ∙ h.tight ∙ ap (λ z. z *ℤ s.cycle) (sym c_is))
