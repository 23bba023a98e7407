use Rattle.std.proofs.Common.{◌≡◌, ℕ, List, [], ◌∷◌, arith, codes, subst, refl, take, ◌++◌}
use Rattle.mintc_text.specs.declared.limits.TheConstants.{MOST_PHASES}
use Rattle.mintc_timing_text.specs.Fields.{IsNameLine}
use Rattle.mintc_timing_text.specs.TableText.{empty, phase}
use Rattle.mintc_timing_text.proofs.TableReading.{so_far_more, so_far_all, phase_states}
use Rattle.mintc_timing_text.proofs.SharedReadingLaws.{at_fault, at_more, list_fault}
use Rattle.mintc_timing_text.proofs.table_text.phases.Goals as goal

pub returns-in_default-clause-read : goal.returns-in_default-clause-read
returns-in_default-clause-read c = λ text v at.
    at_fault at c.in_default.ensures.read c.in_default.ensures.counted (λ e. e) (λ line after step. (step.0, step.1))

pub returns-in_default-name_line-clause-read : goal.returns-in_default-name_line-clause-read
returns-in_default-name_line-clause-read c = λ text v at.
    let begun = at_more c.count_line.new.self (phase v c.in-Some.count empty) at c.in-Some.ensures.read c.in-Some.ensures.counted (λ line spells. (_, spells, refl)) in
    let so = c.loop-phase.invariant text v begun in
    list_fault (phase_states v) (IsNameLine (codes "phase")) text c.loop-phase.reader c.name_line.new.self.number so.0 c.loop-phase._phase c.in-Some.count so.2 (omega arith) c.in_default-name_line.ensures.read c.in_default-name_line.ensures.counted (λ left all e. e) (λ left all line after step. (step.0, step.1))

pub loop-phase-preserved : goal.loop-phase-preserved
loop-phase-preserved c = λ text v at.
    so_far_more (phase_states v) (IsNameLine (codes "phase")) MOST_PHASES text c.loop-phase.reader c.name_line.new.self c.loop-phase.kept.items c.keep.new.items.items c.loop-phase._phase c.in-Some.count c.in-Some-name_line.name.now
    (c.loop-phase.invariant text v at) (omega arith) c.in-Some-name_line.ensures.read c.in-Some-name_line.ensures.counted (subst (λ (x : List ℕ). (all : List (List ℕ)) → c.loop-phase.kept.items ≡ take MOST_PHASES all → c.keep.new.items.items ≡ take MOST_PHASES (all ++ x ∷ [])) c.in_ok-name.ensures c.in_ok-keep.ensures) (λ left all line spells. (c.in-Some-name_line.name.now, spells, refl))

pub returns-clause-read : goal.returns-clause-read
returns-clause-read c = λ text v at.
    let begun = at_more c.count_line.new.self (phase v c.in-Some.count empty) at c.in-Some.ensures.read c.in-Some.ensures.counted (λ line spells. (_, spells, refl)) in
    let all = so_far_all (phase_states v) MOST_PHASES text c.loop-phase.reader c.loop-phase.kept.items c.loop-phase._phase c.in-Some.count (c.loop-phase.invariant text v begun) (omega arith) (omega arith) in
    (all.0, omega (arith, all.1.counted, c.in-Some.ensures.read.spells.1.0), all.1, all.2)
