use Rattle.std.proofs.Common.{arith, inl, inr}
use Rattle.std.proofs.lemmas.Bool.Decides.{nat_tests}
use Rattle.mintc_command_answers.proofs.NumberLaws.{canonical, number_read, no_number}
use Rattle.mintc_command_answers.proofs.command.sample_number.Goals as goal
use Rattle.mintc_command_answers.proofs.command.sample_number.Goals.{then-is_empty-via-then-is_empty, then-is_empty-via-else-is_empty+then-bytes-eq43, then-is_empty-via-else-is_empty+else-bytes-eq43+then-bytes-gt1, then-bytes-eq48, else-bytes-eq48}

pub returns-then-is_empty : goal.returns-then-is_empty
returns-then-is_empty c = λ n small e.
    let h = canonical c.as_bytes-bytes.result.now c.args.word.now n c.as_bytes-bytes.ensures.value small e in
    let some = h.some in
    let first = h.first in
    elim c.then-is_empty.branch [
      | then-is_empty-via-then-is_empty w ↦ grind (arith, nat_tests)
      | then-is_empty-via-else-is_empty+then-bytes-eq43 w ↦ omega (arith, first)
      | then-is_empty-via-else-is_empty+else-bytes-eq43+then-bytes-gt1 w ↦ elim w.if-bytes-eq48.branch [
        | then-bytes-eq48 v ↦ let alone = h.alone v.if-bytes-eq48.true in omega (arith, alone)
        | else-bytes-eq48 v ↦ omega arith
      ]
    ]

pub returns-in-Ok : goal.returns-in-Ok
returns-in-Ok c =
    number_read c.parse.result c.as_bytes-bytes.result.now c.args.word.now c.in-Ok.number c.in-Ok.is c.as_bytes-bytes.ensures.value c.if-bytes-eq43.false
    (λ e. elim c.if-bytes-gt1.either [ inl h ↦ h.1 | inr h ↦ absurd (h e) ]) c.parse.ensures.value.0

pub returns-in-Err : goal.returns-in-Err
returns-in-Err c = no_number c.args.word.now c.in-Err.ensures.value.0
