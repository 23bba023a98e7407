use Rattle.std.proofs.Common.{◌≡◌, ◌≤◌, length}
use Rattle.mintc_text.specs.declared.limits.Most.{Most}
use Rattle.mintc_command_answers.specs.Commands.{source_roles}
use Rattle.mintc_command_answers.specs.Sources.{AreShort, own_file}
use Rattle.mintc_command_answers.proofs.source.give_back.Given as goal

-- the file after those of the design is as it was
abbrev pub invariant-loop-place : goal.invariant-loop-place
invariant-loop-place l = record {
  own : own_file l.fn.source l.files ≡ own_file l.fn.source l.fn.files;
  short : (most : Most) → AreShort most l.fn.files → AreShort most l.files;
  before : l.place-end ≤ length (source_roles l.fn.source);
}
