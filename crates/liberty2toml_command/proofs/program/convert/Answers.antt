use Rattle.std.proofs.lemmas.Grind.{common_steps}
use Rattle.std.proofs.Common.{◌+◌, ℕ, List, arith, subst, inl, inr}
use Rattle.mintc_text.specs.Outside.{Holds, IsFront}
use Rattle.liberty2toml_command.specs.declared.answer.TheConstants.{MOST_BYTES}
use Rattle.liberty2toml_command.proofs.RunLaws.{Holds-front, answered, completed, one-name, same-name}
use Rattle.liberty2toml_command.proofs.program.convert.Goals as goal

pub returns-in-Ok-answer_to-clause-written : goal.returns-in-Ok-answer_to-clause-written
returns-in-Ok-answer_to-clause-written g c =
    let are = one-name c.args.words.now c.index-words-0.result _ (omega (arith, c.if-words-ne1.false)) c.index-words-0.is c.as_str.ensures.value in
    c.write-in-Ok-answer_to.ensures.written _ _
    (answered _ _ _ _ (g.S.Shelf.files c.args.shelf.now) _ _ _ are c.in-Ok.ensures.bytes c.deref.ensures.value c.in-Ok-answer_to.ensures.status c.in-Ok-answer_to.ensures.value c.items.ensures)

pub returns-in-Ok-answer_to-clause-held : goal.returns-in-Ok-answer_to-clause-held
returns-in-Ok-answer_to-clause-held g c = λ name are after.
    let mine = one-name c.args.words.now c.index-words-0.result _ (omega (arith, c.if-words-ne1.false)) c.index-words-0.is c.as_str.ensures.value in
    subst (λ (n : List ℕ). Holds (g.S.Shelf.files c.args.shelf.now) n) (same-name _ _ name mine are) (Holds-front (g.S.Shelf.files c.args.shelf.now) _ _ _ c.in-Ok.ensures.bytes)

pub returns-in-Ok-answer_to-clause-complete : goal.returns-in-Ok-answer_to-clause-complete
returns-in-Ok-answer_to-clause-complete g c = λ name are sound held none quiet.
    let mine = one-name c.args.words.now c.index-words-0.result _ (omega (arith, c.if-words-ne1.false)) c.index-words-0.is c.as_str.ensures.value in
    let front : IsFront (g.S.Shelf.files c.args.shelf.now) name (MOST_BYTES + 1) c.in-Ok.text.items =
    subst (λ (n : List ℕ). IsFront (g.S.Shelf.files c.args.shelf.now) n (MOST_BYTES + 1) c.in-Ok.text.items) (same-name _ _ name mine are) c.in-Ok.ensures.bytes in
    elim c.write-in-Ok-answer_to.ensures.status [
      | inl unchanged ↦ completed name _ _ (g.S.Shelf.files c.args.shelf.now) _ _ _ front c.deref.ensures.value c.in-Ok-answer_to.ensures.status c.in-Ok-answer_to.ensures.value none unchanged
      | inr fault ↦ absurd (quiet (c.write-in-Ok-answer_to.ensures.cause fault))
    ]

pub returns-in-Ok-clause-usage : goal.returns-in-Ok-clause-usage
returns-in-Ok-clause-usage g c = λ none.
    none _ (one-name c.args.words.now c.index-words-0.result _ (omega (arith, c.if-words-ne1.false)) c.index-words-0.is c.as_str.ensures.value)

pub returns-in-Ok-clause-no_reads : goal.returns-in-Ok-clause-no_reads
returns-in-Ok-clause-no_reads g c = λ none.
    absurd (none _ (one-name c.args.words.now c.index-words-0.result _ (omega (arith, c.if-words-ne1.false)) c.index-words-0.is c.as_str.ensures.value))

pub returns-then-words-ne1-clause-usage_only : goal.returns-then-words-ne1-clause-usage_only
returns-then-words-ne1-clause-usage_only c = grind (arith, common_steps)

pub returns-then-words-ne1-clause-written : goal.returns-then-words-ne1-clause-written
returns-then-words-ne1-clause-written c = grind (arith, common_steps)

pub returns-then-words-ne1-clause-held : goal.returns-then-words-ne1-clause-held
returns-then-words-ne1-clause-held c = grind (arith, common_steps)

pub returns-then-words-ne1-clause-complete : goal.returns-then-words-ne1-clause-complete
returns-then-words-ne1-clause-complete c = grind (arith, common_steps)

pub returns-in-Ok-answer_to-clause-usage : goal.returns-in-Ok-answer_to-clause-usage
returns-in-Ok-answer_to-clause-usage c = grind (arith, common_steps)

pub returns-in-Ok-answer_to-clause-no_reads : goal.returns-in-Ok-answer_to-clause-no_reads
returns-in-Ok-answer_to-clause-no_reads c = grind (arith, common_steps)

pub returns-in-Err-Failed-clause-usage : goal.returns-in-Err-Failed-clause-usage
returns-in-Err-Failed-clause-usage c = grind (arith, common_steps)

pub returns-in-Err-Failed-clause-sound : goal.returns-in-Err-Failed-clause-sound
returns-in-Err-Failed-clause-sound c = grind (arith, common_steps)

pub returns-in-Err-Failed-clause-no_reads : goal.returns-in-Err-Failed-clause-no_reads
returns-in-Err-Failed-clause-no_reads c = grind (arith, common_steps)

pub returns-in-Err-Failed-clause-complete : goal.returns-in-Err-Failed-clause-complete
returns-in-Err-Failed-clause-complete c = grind (arith, common_steps)

pub returns-clause-usage : goal.returns-clause-usage
returns-clause-usage c = grind (arith, common_steps)

pub returns-clause-no_reads : goal.returns-clause-no_reads
returns-clause-no_reads c = grind (arith, common_steps)
