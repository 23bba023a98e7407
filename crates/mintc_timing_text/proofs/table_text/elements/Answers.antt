use Rattle.std.proofs.Common.{◌≡◌, ℕ, List, [], ◌∷◌, arith, subst, sym, refl, take, ◌++◌}
use Rattle.mintc_text.specs.declared.limits.TheConstants.{MOST_ELEMENTS}
use Rattle.mintc_timing.specs.declared.parts.Element.{Element}
use Rattle.mintc_timing.specs.Design.{design_of}
use Rattle.mintc_timing_text.specs.ElementWords.{named}
use Rattle.mintc_timing_text.specs.Fields.{Spells}
use Rattle.mintc_timing_text.specs.TableText.{IsElementLine, element}
use Rattle.mintc_timing_text.proofs.TableReading.{so_far_more, so_far_all, element_states}
use Rattle.mintc_timing_text.proofs.SharedReadingLaws.{at_fault, at_more, list_fault}
use Rattle.mintc_timing_text.proofs.table_text.elements.Goals as goal

pub returns-in_default-clause-read : goal.returns-in_default-clause-read
returns-in_default-clause-read c = λ text ps counted at.
    at_fault at c.in_default.ensures.read c.in_default.ensures.counted (λ e. e) (λ line after step. (step.0, step.1))

pub returns-in_default-element_line-clause-read : goal.returns-in_default-element_line-clause-read
returns-in_default-element_line-clause-read c = λ text ps counted at.
    let begun = at_more c.count_line.new.self (element c.args.version c.in-Some.count (design_of ps [] [] [] [])) at c.in-Some.ensures.read c.in-Some.ensures.counted (λ line spells. (_, spells, refl)) in
    let so = c.loop-element.invariant text ps counted begun in
    list_fault (element_states c.args.version ps) (IsElementLine c.args.version c.args.phases) text c.loop-element.reader c.element_line.new.reader.number so.0 c.loop-element._element c.in-Some.count so.2 (omega arith) c.in_default-element_line.ensures.read c.in_default-element_line.ensures.counted (λ left all e. e) (λ left all line after step. (step.0, subst (λ (k : ℕ). Spells (IsElementLine c.args.version k) step.0 line) counted step.1))

pub loop-element-preserved : goal.loop-element-preserved
loop-element-preserved c = λ text ps counted at.
    so_far_more (element_states c.args.version ps) (IsElementLine c.args.version c.args.phases) MOST_ELEMENTS text c.loop-element.reader c.element_line.new.reader c.loop-element.kept.items c.keep.new.items.items c.loop-element._element c.in-Some.count (named c.in-Some-element_line.name.now c.in-Some-element_line.numbers)
    (c.loop-element.invariant text ps counted at) (omega arith) c.in-Some-element_line.ensures.read c.in-Some-element_line.ensures.counted (subst (λ (x : Element). (all : List Element) → c.loop-element.kept.items ≡ take MOST_ELEMENTS all → c.keep.new.items.items ≡ take MOST_ELEMENTS (all ++ x ∷ [])) c.in_ok-element.ensures c.in_ok-keep.ensures) (λ left all line spells. ((named c.in-Some-element_line.name.now c.in-Some-element_line.numbers), subst (λ (k : ℕ). Spells (IsElementLine c.args.version k) (named c.in-Some-element_line.name.now c.in-Some-element_line.numbers) line) (sym counted) spells, refl))

pub returns-clause-read : goal.returns-clause-read
returns-clause-read c = λ text ps counted at.
    let begun = at_more c.count_line.new.self (element c.args.version c.in-Some.count (design_of ps [] [] [] [])) at c.in-Some.ensures.read c.in-Some.ensures.counted (λ line spells. (_, spells, refl)) in
    so_far_all (element_states c.args.version ps) MOST_ELEMENTS text c.loop-element.reader c.loop-element.kept.items c.loop-element._element c.in-Some.count (c.loop-element.invariant text ps counted begun) (omega arith) (omega arith)
