use Rattle.std.proofs.lemmas.Grind.{common_steps}
use Rattle.std.proofs.Common.{rules, ◌≡◌, ◌<◌, ◌∙◌, length, codes, arith, sym}
use Rattle.std.proofs.lemmas.List.{get_or_read}
use Rattle.mintc_command_answers.proofs.WordLaws.{corner_words, first_word}
use Rattle.mintc_command_answers.proofs.command.command_of.Goals as goal

pub returns-then-eq : goal.returns-then-eq
returns-then-eq c =
    let some : 0 < length c.args.words.now = let enough = c.if-words-lt2.false in omega (arith, enough) in
    let is = get_or_read c.args.words.now 0 c.index-words-0.result some c.index-words-0.is c.index-words-0.result in
    let told = c.in_ok-count.ensures in
    let same : c.as_str-first.result.now ≡ codes "corners" = search rules in
    corner_words c.args.words.now c.in_ok-count.count _ told.0 told.1 (sym c.as_str-first.ensures.value ∙ same) (first_word c.args.words.now c.index-words-0.result some is)

pub returns-then-words-lt2 : goal.returns-then-words-lt2
returns-then-words-lt2 c = grind (arith, common_steps)

pub returns-in_err-count : goal.returns-in_err-count
returns-in_err-count c = grind (arith, common_steps)

pub returns-in_err-command : goal.returns-in_err-command
returns-in_err-command c = grind (arith, common_steps)

pub returns-then-words-roles : goal.returns-then-words-roles
returns-then-words-roles c = grind (arith, common_steps)

pub returns-else-words-roles : goal.returns-else-words-roles
returns-else-words-roles c = grind (arith, common_steps)
