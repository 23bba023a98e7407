use Rattle.std.proofs.Common.{◌≡◌, ◌<◌, ◌/◌, ◌∙◌, length, arith, sym, subst, ⊎_elim}
use Rattle.std.proofs.lemmas.Bool.{cases_eq}
use Rattle.mintc_bitset.specs.BitSet.{IsIn}
use Rattle.mintc_bitset.proofs.Setting.{without_bit, cleared_own, cleared_other}
use Rattle.mintc_bitset.proofs.bit_set.take_out.Goals as goal

pub returns-clause-removed : goal.returns-clause-removed
returns-clause-removed c = λ is.
    let r = c.requires in
    let one : 0 ≡ 1 = sym (cleared_own c.args.words.now c.args.place (omega arith)) ∙ is in
    absurd (omega (arith, one))

pub returns-clause-others : goal.returns-clause-others
returns-clause-others c = λ other ne is. let r = c.requires in cleared_other c.args.words.now c.args.place other (omega arith) ne ∙ is

pub returns-clause-only : goal.returns-clause-only
returns-clause-only c = λ other is.
    let r = c.requires in
    let inside : c.args.place / 64 < length c.args.words.now = omega arith in
    ⊎_elim
    (λ e.
    let own : IsIn (without_bit c.args.words.now c.args.place) c.args.place = subst (λ p. IsIn (without_bit c.args.words.now c.args.place) p) e is in
    let one : 0 ≡ 1 = sym (cleared_own c.args.words.now c.args.place inside) ∙ own in
    absurd (omega (arith, one)))
    (λ ne. sym (cleared_other c.args.words.now c.args.place other inside ne) ∙ is)
    (cases_eq other c.args.place)
