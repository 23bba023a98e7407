use Rattle.std.proofs.Common.{◌*◌, ◌+◌, ◌-◌, ℕ, get_or, refl, arith, ⊎_elim, w64}
use Rattle.std.proofs.lemmas.Bool.{cases_lt}
use Rattle.std.proofs.lemmas.Nat.Bits.{bit_at-trailing_zeros}
use Rattle.std.specs.Int.{trailing_zeros}
use Rattle.mintc_bitset.proofs.Setting.{in_word, from_word}
use Rattle.mintc_bitset.proofs.bit_set.next_from.Goals as goal

pub returns-then-bits-gt0-clause-is_in : goal.returns-then-bits-gt0-clause-is_in
returns-then-bits-gt0-clause-is_in c = λ below.
    let word : ℕ = get_or c.args.words.now c.loop-at.at 0 in
    let lowest = bit_at-trailing_zeros w64 word c.if-bits-gt0.true (c.type_inv.words c.loop-at.at).fits in
    in_word c.args.words.now c.loop-at.at (trailing_zeros w64 word) (64 * c.loop-at.at + trailing_zeros w64 word) lowest.0 refl lowest.1

pub returns-then-bits-gt0-clause-none : goal.returns-then-bits-gt0-clause-none
returns-then-bits-gt0-clause-none c = λ other from below is.
    let at : ℕ = c.loop-at.at in
    let word : ℕ = get_or c.args.words.now at 0 in
    let lowest = bit_at-trailing_zeros w64 word c.if-bits-gt0.true (c.type_inv.words at).fits in
    let few = lowest.0 in
    ⊎_elim
    (λ early. c.loop-at.invariant.2 other from early is)
    (λ late.
    let one = from_word c.args.words.now at (other - 64 * at) other (omega arith) (omega arith) is in
    let none = lowest.2 (other - 64 * at) (omega arith) in
    absurd (omega arith))
    (cases_lt other (64 * at))
