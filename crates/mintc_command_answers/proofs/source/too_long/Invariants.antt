use Rattle.std.proofs.Common.{take}
use Rattle.mintc_command_answers.specs.Sources.{AreShort}
use Rattle.mintc_command_answers.proofs.source.too_long.Given as goal

-- the files so far are short
abbrev pub invariant-loop-place : goal.invariant-loop-place
invariant-loop-place l = AreShort l.limits (take l.place l.files)
