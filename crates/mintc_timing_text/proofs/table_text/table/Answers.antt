use Rattle.std.proofs.Common.{arith, refl}
use Rattle.std.proofs.lemmas.Grind.{common_steps}
use Rattle.mintc_timing.specs.Design.{design_of}
use Rattle.mintc_timing_text.specs.TableText.{inner_names, whole}
use Rattle.mintc_timing_text.proofs.TableReading.{length-inner_names}
use Rattle.mintc_timing_text.proofs.SharedReadingLaws.{at_end, at_fault, at_more, at_past}
use Rattle.mintc_timing_text.proofs.table_text.table.Goals as goal

pub returns-in_err-joined : goal.returns-in_err-joined
returns-in_err-joined c = λ text at.
    let one = c.in_ok-names.ensures.read text at in
    let told = c.in_err-joined.ensures text one.0 one.1 (inner_names c.in_ok-names.inner) one.3.counted (length-inner_names c.in_ok-names.inner) one.4 in
    grind (arith, common_steps)

pub returns-in_err-demands : goal.returns-in_err-demands
returns-in_err-demands c = λ text at.
    let one = c.in_ok-names.ensures.read text at in
    let ns = inner_names c.in_ok-names.inner in
    let two = c.in_ok-joined.ensures text one.0 one.1 ns one.3.counted (length-inner_names c.in_ok-names.inner) one.4 in
    let told = c.in_err-demands.ensures text one.0 one.1 ns two.0 one.2.counted two.2 in
    grind (arith, common_steps)

pub returns-in_default : goal.returns-in_default
returns-in_default c = λ text at.
    let one = c.in_ok-names.ensures.read text at in
    let ns = inner_names c.in_ok-names.inner in
    let two = c.in_ok-joined.ensures text one.0 one.1 ns one.3.counted (length-inner_names c.in_ok-names.inner) one.4 in
    let three = c.in_ok-demands.ensures text one.0 one.1 ns two.0 one.2.counted two.2 in
    at_fault three.2 c.in_default.ensures.read c.in_default.ensures.counted (λ e. e) (λ line after step. (step.0, step.1))

pub returns-in_default-end : goal.returns-in_default-end
returns-in_default-end c = λ text at.
    let one = c.in_ok-names.ensures.read text at in
    let ns = inner_names c.in_ok-names.inner in
    let two = c.in_ok-joined.ensures text one.0 one.1 ns one.3.counted (length-inner_names c.in_ok-names.inner) one.4 in
    let three = c.in_ok-demands.ensures text one.0 one.1 ns two.0 one.2.counted two.2 in
    let d = design_of one.0 one.1 ns two.0 three.0 in
    let four = at_more c.word_line.new.self (whole d) three.2 c.in-Some.ensures.read c.in-Some.ensures.counted (λ line spells. (_, spells, refl)) in
    at_past four c.in_default-end.ensures.read c.in_default-end.ensures.counted (λ line after step. step)

pub returns : goal.returns
returns c = λ text at.
    let one = c.in_ok-names.ensures.read text at in
    let ns = inner_names c.in_ok-names.inner in
    let two = c.in_ok-joined.ensures text one.0 one.1 ns one.3.counted (length-inner_names c.in_ok-names.inner) one.4 in
    let three = c.in_ok-demands.ensures text one.0 one.1 ns two.0 one.2.counted two.2 in
    let d = design_of one.0 one.1 ns two.0 three.0 in
    let four = at_more c.word_line.new.self (whole d) three.2 c.in-Some.ensures.read c.in-Some.ensures.counted (λ line spells. (_, spells, refl)) in (
      d,
      at_end four c.in-Some-end.ensures.read,
      record { phases = one.2; elements = one.3; inner = refl; arcs = two.1; bounds = three.1 },
    )
