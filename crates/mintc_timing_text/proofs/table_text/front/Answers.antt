use Rattle.std.proofs.Common.{arith, ap, [], refl}
use Rattle.std.proofs.lemmas.Grind.{common_steps}
use Rattle.mintc_timing.specs.Design.{design_of}
use Rattle.mintc_timing_text.specs.TableText.{version_of, arcs, inner_names, phases}
use Rattle.mintc_timing_text.proofs.SharedReadingLaws.{at_fault, at_more}
use Rattle.mintc_timing_text.proofs.table_text.front.Goals as goal

pub returns-in_default-clause-read : goal.returns-in_default-clause-read
returns-in_default-clause-read c = λ text at.
    at_fault at c.in_default.ensures.read c.in_default.ensures.counted (λ e. e) (λ line after step. (step.0, step.1))

pub returns-in_err-names-clause-read : goal.returns-in_err-names-clause-read
returns-in_err-names-clause-read c = λ text at.
    let one = at_more c.count_line.new.self (phases (version_of c.in-Some.number)) at c.in-Some.ensures.read c.in-Some.ensures.counted (λ line spells. (_, spells, refl)) in
    let told = c.in_err-names.ensures.read text (version_of c.in-Some.number) one in
    grind (arith, common_steps)

pub returns-in_err-listed-clause-read : goal.returns-in_err-listed-clause-read
returns-in_err-listed-clause-read c = λ text at.
    let one = at_more c.count_line.new.self (phases c.version_of.result) at c.in-Some.ensures.read c.in-Some.ensures.counted (λ line spells. (_, spells, ap phases c.version_of.ensures)) in
    let two = c.in_ok-names.ensures.read text c.version_of.result one in
    let told = c.in_err-listed.ensures.read text two.0 two.2.counted two.3 in
    grind (arith, common_steps)

pub returns-in_default-count_line-clause-read : goal.returns-in_default-count_line-clause-read
returns-in_default-count_line-clause-read c = λ text at.
    let one = at_more c.count_line.new.self (phases c.version_of.result) at c.in-Some.ensures.read c.in-Some.ensures.counted (λ line spells. (_, spells, ap phases c.version_of.ensures)) in
    let two = c.in_ok-names.ensures.read text c.version_of.result one in
    let three = c.in_ok-listed.ensures.read text two.0 two.2.counted two.3 in
    at_fault three.2 c.in_default-count_line.ensures.read c.in_default-count_line.ensures.counted (λ e. e) (λ line after step. (step.0, step.1))

pub returns-clause-read : goal.returns-clause-read
returns-clause-read c = λ text at.
    let one = at_more c.count_line.new.self (phases c.version_of.result) at c.in-Some.ensures.read c.in-Some.ensures.counted (λ line spells. (_, spells, ap phases c.version_of.ensures)) in
    let two = c.in_ok-names.ensures.read text c.version_of.result one in
    let three = c.in_ok-listed.ensures.read text two.0 two.2.counted two.3 in
    let four = at_more c.count_line-2.new.self (arcs (record (design_of two.0 three.0 [] [] []) { inner = inner_names c.in-Some-count_line.inner })) three.2 c.in-Some-count_line.ensures.read c.in-Some-count_line.ensures.counted (λ line spells. (_, spells, refl)) in
    (two.0, three.0, two.2, three.1, four)
