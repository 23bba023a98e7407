use Rattle.std.proofs.Common.{refl, arith}
use Rattle.std.proofs.lemmas.List.{take_all}
use Rattle.mintc_timing_text.proofs.SharedFieldsLaws.{cuts, front_number}
use Rattle.mintc_timing_text.proofs.fields.Fields.short_number.Goals as goal

pub returns-then-end-rest-clause-some : goal.returns-then-end-rest-clause-some
returns-then-end-rest-clause-some c =
    let found = c.leading_digits-value in
    let short = c.if-not-is_short_number.ensures.0 refl in
    let front = front_number c.self.inside.rest.now found.result.1 found.result.0 found.ensures.within short.0 short.1 short.2 found.ensures.digits found.ensures.value in
    let whole = take_all found.result.1 c.self.inside.rest.now (omega arith) in
    grind (arith, cuts)

pub returns-else-end-rest-clause-some : goal.returns-else-end-rest-clause-some
returns-else-end-rest-clause-some c =
    let found = c.leading_digits-value in
    let short = c.if-not-is_short_number.ensures.0 refl in
    let front = front_number c.self.inside.rest.now found.result.1 found.result.0 found.ensures.within short.0 short.1 short.2 found.ensures.digits found.ensures.value in
    grind (arith, cuts)
