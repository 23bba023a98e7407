use Rattle.std.proofs.Common.{◌≡◌, ℕ, List, length, ap, ◌∙◌, sym, subst, inl, inr, Err}
use Rattle.mintc_command.specs.Answers.{IsNotRefused}
use Rattle.mintc_command_answers.specs.declared.command.Command.{Command}
use Rattle.mintc_command_answers.specs.declared.status.Status.TheVariants.{Usage, WriteFault}
use Rattle.mintc_command.proofs.AnswerLaws.{IsOfCommand-no_usage, answered, as_many, completed}
use Rattle.mintc_command.proofs.CommandLaws.{one_command, read-count, read-names}
use Rattle.mintc_command.proofs.program.run_within.Goals as goal

pub answer_to-requires-clause-count : goal.answer_to-requires-clause-count
answer_to-requires-clause-count g c =
    let are = c.in-Some.ensures in
    let same = read-names c.args.words.now c.word_count.result c.in-Some.command c.in-Some.command _ _ c.word_count.ensures are are in
    ap (λ (x : List (List ℕ)). length x) c.as_mut_slice.ensures.value
    ∙ as_many (g.S.Shelf.files c.args.shelf.now) _ _ _ c.in-Ok.ensures.fronts
    ∙ ap (λ (x : List (List ℕ)). length x) same ∙ are.count

pub returns-in-Ok-answer_to-clause-usage_only : goal.returns-in-Ok-answer_to-clause-usage_only
returns-in-Ok-answer_to-clause-usage_only g c = λ e h.
    elim c.write-in-Ok-answer_to.ensures.status [
      | inl same ↦ IsOfCommand-no_usage c.in-Ok-answer_to.answer.status c.in-Ok-answer_to.ensures.status (sym same ∙ e)
      | inr fault ↦ let both : WriteFault ≡ Usage = sym fault ∙ e in cc
    ]

pub returns-in-Ok-answer_to-clause-held : goal.returns-in-Ok-answer_to-clause-held
returns-in-Ok-answer_to-clause-held g c = λ command names are after.
    rw (read-names c.args.words.now c.word_count.result c.in-Some.command command _ names c.word_count.ensures c.in-Some.ensures are) at c.in-Ok.ensures.held

pub returns-in-Err-Failed-clause-sound : goal.returns-in-Err-Failed-clause-sound
returns-in-Err-Failed-clause-sound g c = λ command names are sound all e.
    c.in-Err-Failed.ensures.sound sound (rw (read-names c.args.words.now c.word_count.result c.in-Some.command command _ names c.word_count.ensures c.in-Some.ensures are) all) (ap Err c.in-Err-Failed.field-0-is)

pub returns-in-Err-Failed-clause-complete : goal.returns-in-Err-Failed-clause-complete
returns-in-Err-Failed-clause-complete g c = λ command names are sound all none quiet.
    c.in-Err-Failed.ensures.sound sound (rw (read-names c.args.words.now c.word_count.result c.in-Some.command command _ names c.word_count.ensures c.in-Some.ensures are) all) (ap Err c.in-Err-Failed.field-0-is)

pub returns-in-Ok-answer_to-clause-written : goal.returns-in-Ok-answer_to-clause-written
returns-in-Ok-answer_to-clause-written g c =
    let are = c.in-Some.ensures in
    c.write-in-Ok-answer_to.ensures.written c.args.limits.now _ _
    (answered c.args.limits.now _ _ _ _ _ (g.S.Shelf.files c.args.shelf.now) c.in-Some.command _ _ _ are (read-names c.args.words.now c.word_count.result c.in-Some.command c.in-Some.command _ _ c.word_count.ensures are are)
    c.in-Ok.ensures.fronts c.as_mut_slice.ensures.value c.in-Ok-answer_to.ensures.status c.in-Ok-answer_to.ensures.defined c.items.ensures)

pub returns-in-Ok-answer_to-clause-complete : goal.returns-in-Ok-answer_to-clause-complete
returns-in-Ok-answer_to-clause-complete g c = λ command names are sound all none quiet.
    let same : command ≡ c.in-Some.command = one_command command c.in-Some.command names _ _ are c.in-Some.ensures in
    let P : Command → Type 0 = λ x. IsNotRefused c.args.limits.now (g.S.Shelf.files c.args.shelf.now) x names in
    elim c.write-in-Ok-answer_to.ensures.status [
      | inl unchanged ↦ completed c.args.limits.now names _ _ _ (g.S.Shelf.files c.args.shelf.now) c.in-Some.command _ _ _ (read-names c.args.words.now c.word_count.result c.in-Some.command command _ names c.word_count.ensures c.in-Some.ensures are)
          c.in-Ok.ensures.fronts c.as_mut_slice.ensures.value c.in-Ok-answer_to.ensures.status c.in-Ok-answer_to.ensures.defined (subst P same none) unchanged
      | inr fault ↦ absurd (quiet (c.write-in-Ok-answer_to.ensures.cause fault))
    ]

pub returns-in-Ok-answer_to-clause-reads : goal.returns-in-Ok-answer_to-clause-reads
returns-in-Ok-answer_to-clause-reads g c = λ command names are.
    rw (read-count c.args.words.now c.word_count.result c.in-Some.command command _ names c.word_count.ensures c.in-Some.ensures are) at c.in-Ok.ensures.reads
