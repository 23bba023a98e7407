use Rattle.std.proofs.Common.{◌<◌, ◌/◌, ◌∙◌, length, arith, sym, subst, ⊎_elim}
use Rattle.std.proofs.lemmas.Bool.{cases_eq}
use Rattle.mintc_bitset.specs.BitSet.{IsIn}
use Rattle.mintc_bitset.proofs.Setting.{with_bit, set_own, set_other}
use Rattle.mintc_bitset.proofs.bit_set.insert.Goals as goal

pub returns-clause-inserted : goal.returns-clause-inserted
returns-clause-inserted c = let r = c.requires in set_own c.args.words.now c.args.place (omega arith)

pub returns-clause-kept : goal.returns-clause-kept
returns-clause-kept c = λ other is.
    let r = c.requires in
    let inside : c.args.place / 64 < length c.args.words.now = omega arith in
    ⊎_elim
    (λ e. subst (λ p. IsIn (with_bit c.args.words.now c.args.place) p) (sym e) (set_own c.args.words.now c.args.place inside))
    (λ ne. set_other c.args.words.now c.args.place other inside ne ∙ is)
    (cases_eq other c.args.place)

pub returns-clause-only : goal.returns-clause-only
returns-clause-only c = λ other ne is. let r = c.requires in sym (set_other c.args.words.now c.args.place other (omega arith) ne) ∙ is
