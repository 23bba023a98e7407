use Rattle.std.proofs.Common.{length, refl, arith}
use Rattle.std.proofs.lemmas.List.{take_all}
use Rattle.mintc_timing_text.proofs.SharedFieldsLaws.{cuts, front_word}
use Rattle.mintc_timing_text.proofs.fields.Fields.pass.Goals as goal

pub returns-then-word-rest-clause-some : goal.returns-then-word-rest-clause-some
returns-then-word-rest-clause-some c =
    let front = c.if-not-begins_with.ensures refl in
    let word = front_word c.self.inside.rest.now c.args.word.now front.0 front.1 in
    let whole = take_all (length c.args.word.now) c.self.inside.rest.now (omega arith) in
    grind (arith, cuts)

pub returns-else-word-rest-clause-some : goal.returns-else-word-rest-clause-some
returns-else-word-rest-clause-some c =
    let front = c.if-not-begins_with.ensures refl in
    let word = front_word c.self.inside.rest.now c.args.word.now front.0 front.1 in
    grind (arith, cuts)
