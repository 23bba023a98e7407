use Rattle.std.proofs.Common.{refl, inl, arith}
use Rattle.mintc_text.specs.declared.refusals.Refusal.TheVariants.{TooLong}
use Rattle.mintc_text.specs.declared.refusals.Role.TheVariants as role
use Rattle.liberty2toml_command.proofs.answer.answer_to.Goals as goal

pub returns-then-text-gt-MOST_BYTES-clause-value : goal.returns-then-text-gt-MOST_BYTES-clause-value
returns-then-text-gt-MOST_BYTES-clause-value c = (TooLong role.Cells, inl (omega (arith, c.if-text-gt-MOST_BYTES.true), refl), c.in_ok-length_line.ensures)
