use Rattle.std.proofs.Common.{◌≡◌, ◌∙◌, sym, ap, subst, Some, arith}
use Rattle.std.proofs.lemmas.Grind.{common_steps}
use Rattle.mintc_timing.specs.Design.{Design}
use Rattle.mintc_timing.specs.Limits.{HasParts, limit_of}
use Rattle.mintc_timing_text.specs.TableReading.{ArePartsOf}
use Rattle.mintc_timing_text.proofs.TableLaws.{limit_of_parts, design_of_parts}
use Rattle.mintc_timing_text.proofs.table_text.flat_of.Goals as goal

pub returns-in-Some-clause-stop : goal.returns-in-Some-clause-stop
returns-in-Some-clause-stop c = λ d h. limit_of_parts c.args.limits.now d c.args.parts h ∙ sym c.in-Some.ensures.refusal

pub new-requires-2 : goal.new-requires-2
new-requires-2 c =
    let told = c.requires in
    let few = c.in_default.ensures.within in
    let kept = c.in_default.ensures.kept in
    subst HasParts (sym (design_of_parts told.0 c.args.parts c.new.result c.in_ok-inner.inner told.2 c.new.ensures c.in_ok-inner.ensures few.1 (omega (arith, few.2, kept.elements)) (omega (arith, few.3, kept.arcs)) few.4)) told.1

pub returns-clause-value : goal.returns-clause-value
returns-clause-value c = λ d h.
    let few = c.in_default.ensures.within in
    let kept = c.in_default.ensures.kept in
    c.in_ok-new.ensures.ok ∙ design_of_parts d c.args.parts c.new.result c.in_ok-inner.inner h c.new.ensures c.in_ok-inner.ensures few.1 (omega (arith, few.2, kept.elements)) (omega (arith, few.3, kept.arcs)) few.4

pub returns-in_err-new-clause-stop : goal.returns-in_err-new-clause-stop
returns-in_err-new-clause-stop c =
    let few = c.in_default.ensures.within in
    let kept = c.in_default.ensures.kept in
    let limits : (d : Design) → ArePartsOf d c.args.parts → limit_of c.args.limits.now d ≡ Some c.in_err-new.field-0.0 = λ d h.
    ap (limit_of c.args.limits.now) (sym (design_of_parts d c.args.parts c.new.result c.in_ok-inner.inner h c.new.ensures c.in_ok-inner.ensures few.1 (omega (arith, few.2, kept.elements)) (omega (arith, few.3, kept.arcs)) few.4)) ∙ c.in_err-new.ensures.limit in
    grind (arith, common_steps, limits)
