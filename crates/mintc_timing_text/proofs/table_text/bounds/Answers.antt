use Rattle.std.proofs.Common.{ℕ, [], arith, subst, sym, refl}
use Rattle.mintc_text.specs.declared.limits.TheConstants.{MOST_BOUNDS}
use Rattle.mintc_timing.specs.Design.{design_of}
use Rattle.mintc_timing_text.specs.Fields.{Spells}
use Rattle.mintc_timing_text.specs.TableText.{IsBoundLine, bound}
use Rattle.mintc_timing_text.proofs.TableReading.{so_far_more, so_far_all, bound_states}
use Rattle.mintc_timing_text.proofs.SharedReadingLaws.{at_fault, at_more, list_fault}
use Rattle.mintc_timing_text.proofs.table_text.bounds.Goals as goal

pub returns-in_default : goal.returns-in_default
returns-in_default c = λ text ps es ns xs counted at.
    at_fault at c.in_default.ensures.read c.in_default.ensures.counted (λ e. e) (λ line after step. (step.0, step.1))

pub returns-in_default-bound_line : goal.returns-in_default-bound_line
returns-in_default-bound_line c = λ text ps es ns xs counted at.
    let begun = at_more c.count_line.new.self (bound c.in-Some.count (design_of ps es ns xs [])) at c.in-Some.ensures.read c.in-Some.ensures.counted (λ line spells. (_, spells, refl)) in
    let so = c.loop-bound.invariant text ps es ns xs counted begun in
    list_fault (bound_states ps es ns xs) (IsBoundLine c.args.phases) text c.loop-bound.reader c.bound_line.new.reader.number so.0 c.loop-bound._bound c.in-Some.count so.2 (omega arith) c.in_default-bound_line.ensures.read c.in_default-bound_line.ensures.counted (λ left all e. e) (λ left all line after step. (step.0, subst (λ (k : ℕ). Spells (IsBoundLine k) step.0 line) counted step.1))

pub loop-bound-preserved : goal.loop-bound-preserved
loop-bound-preserved c = λ text ps es ns xs counted at.
    so_far_more (bound_states ps es ns xs) (IsBoundLine c.args.phases) MOST_BOUNDS text c.loop-bound.reader c.bound_line.new.reader c.loop-bound.kept.items c.keep.new.items.items c.loop-bound._bound c.in-Some.count c.in-Some-bound_line.bound
    (c.loop-bound.invariant text ps es ns xs counted at) (omega arith) c.in-Some-bound_line.ensures.read c.in-Some-bound_line.ensures.counted c.in_ok-keep.ensures (λ left all line spells. (c.in-Some-bound_line.bound, subst (λ (k : ℕ). Spells (IsBoundLine k) c.in-Some-bound_line.bound line) (sym counted) spells, refl))

pub returns : goal.returns
returns c = λ text ps es ns xs counted at.
    let begun = at_more c.count_line.new.self (bound c.in-Some.count (design_of ps es ns xs [])) at c.in-Some.ensures.read c.in-Some.ensures.counted (λ line spells. (_, spells, refl)) in
    so_far_all (bound_states ps es ns xs) MOST_BOUNDS text c.loop-bound.reader c.loop-bound.kept.items c.loop-bound._bound c.in-Some.count (c.loop-bound.invariant text ps es ns xs counted begun) (omega arith) (omega arith)
