use Rattle.std.proofs.Common.{ℕ, [], length, arith, subst, sym, refl}
use Rattle.mintc_text.specs.declared.limits.TheConstants.{MOST_ARCS}
use Rattle.mintc_timing.specs.Design.{design_of}
use Rattle.mintc_timing_text.specs.Fields.{Spells}
use Rattle.mintc_timing_text.specs.TableText.{IsArcLine, arc}
use Rattle.mintc_timing_text.proofs.TableReading.{so_far_more, so_far_all, arc_states}
use Rattle.mintc_timing_text.proofs.SharedReadingLaws.{at_fault, at_more, list_fault}
use Rattle.mintc_timing_text.proofs.table_text.arcs.Goals as goal

pub returns-in_default : goal.returns-in_default
returns-in_default c = λ text ps es ns counted inner at.
    at_fault at c.in_default.ensures.read c.in_default.ensures.counted (λ e. e) (λ line after step. (step.0, step.1))

pub returns-in_default-arc_line : goal.returns-in_default-arc_line
returns-in_default-arc_line c = λ text ps es ns counted inner at.
    let begun = at_more c.count_line.new.self (arc c.in-Some.count (design_of ps es ns [] [])) at c.in-Some.ensures.read c.in-Some.ensures.counted (λ line spells. (_, spells, refl)) in
    let so = c.loop-arc.invariant text ps es ns counted inner begun in
    list_fault (arc_states ps es ns) (IsArcLine c.args.elements c.args.inner) text c.loop-arc.reader c.arc_line.new.reader.number so.0 c.loop-arc._arc c.in-Some.count so.2 (omega arith) c.in_default-arc_line.ensures.read c.in_default-arc_line.ensures.counted (λ left all e. e) (λ left all line after step. (step.0, subst (λ (k : ℕ). Spells (IsArcLine c.args.elements k) step.0 line) inner (subst (λ (k : ℕ). Spells (IsArcLine k (length ns)) step.0 line) counted step.1)))

pub loop-arc-preserved : goal.loop-arc-preserved
loop-arc-preserved c = λ text ps es ns counted inner at.
    so_far_more (arc_states ps es ns) (IsArcLine c.args.elements c.args.inner) MOST_ARCS text c.loop-arc.reader c.arc_line.new.reader c.loop-arc.kept.items c.keep.new.items.items c.loop-arc._arc c.in-Some.count c.in-Some-arc_line.arc
    (c.loop-arc.invariant text ps es ns counted inner at) (omega arith) c.in-Some-arc_line.ensures.read c.in-Some-arc_line.ensures.counted c.in_ok-keep.ensures (λ left all line spells. (c.in-Some-arc_line.arc, subst (λ (k : ℕ). Spells (IsArcLine k (length ns)) c.in-Some-arc_line.arc line) (sym counted) (subst (λ (k : ℕ). Spells (IsArcLine c.args.elements k) c.in-Some-arc_line.arc line) (sym inner) spells), refl))

pub returns : goal.returns
returns c = λ text ps es ns counted inner at.
    let begun = at_more c.count_line.new.self (arc c.in-Some.count (design_of ps es ns [] [])) at c.in-Some.ensures.read c.in-Some.ensures.counted (λ line spells. (_, spells, refl)) in
    so_far_all (arc_states ps es ns) MOST_ARCS text c.loop-arc.reader c.loop-arc.kept.items c.loop-arc._arc c.in-Some.count (c.loop-arc.invariant text ps es ns counted inner begun) (omega arith) (omega arith)
