use Rattle.std.proofs.Common.{◌*◌, ◌+◌, ◌-◌, ◌/◌, ◌%◌, ℕ, get_or, arith, ⊎_elim}
use Rattle.std.proofs.lemmas.Bool.{cases_lt}
use Rattle.mintc_bitset.proofs.Setting.{in_word, from_word}
use Rattle.mintc_bitset.proofs.Shifting.{lowest, is_set, is_within, none_below, gone_above}
use Rattle.mintc_bitset.proofs.bit_set.next_in.Goals as goal

pub returns-then-bits-gt0-clause-is_in : goal.returns-then-bits-gt0-clause-is_in
returns-then-bits-gt0-clause-is_in c = λ below.
    let at : ℕ = c.args.place / 64 in
    let k : ℕ = c.args.place % 64 in
    let word : ℕ = get_or c.args.words.now at 0 in
    let fits = (c.type_inv.words at).fits in
    let within = is_within word k fits c.if-bits-gt0.true in
    in_word c.args.words.now at (k + lowest word k fits c.if-bits-gt0.true) (c.args.place + lowest word k fits c.if-bits-gt0.true) within (omega arith) (is_set word k fits c.if-bits-gt0.true)

pub returns-then-bits-gt0-clause-none : goal.returns-then-bits-gt0-clause-none
returns-then-bits-gt0-clause-none c = λ other from below is.
    let at : ℕ = c.args.place / 64 in
    let k : ℕ = c.args.place % 64 in
    let word : ℕ = get_or c.args.words.now at 0 in
    let fits = (c.type_inv.words at).fits in
    let within = is_within word k fits c.if-bits-gt0.true in
    let one = from_word c.args.words.now at (k + (other - c.args.place)) other (omega arith) (omega arith) is in
    let none = none_below word k fits c.if-bits-gt0.true (other - c.args.place) (omega arith) in
    absurd (omega arith)

pub returns-clause-none : goal.returns-clause-none
returns-clause-none c = λ other from below is.
    let at : ℕ = c.args.place / 64 in
    let k : ℕ = c.args.place % 64 in
    let word : ℕ = get_or c.args.words.now at 0 in
    ⊎_elim
    (λ early.
    let one = from_word c.args.words.now at (k + (other - c.args.place)) other (omega arith) (omega arith) is in
    let none = gone_above word k (omega (arith, c.if-bits-gt0.false)) (other - c.args.place) in
    absurd (omega arith))
    (λ late. c.next_from.ensures.none other (omega arith) below is)
    (cases_lt other (64 * (at + 1)))
