use Rattle.std.proofs.Common.{take}
use Rattle.mintcx_warnings_files.specs.Clamped.{AreOfClamped}
use Rattle.mintcx_warnings_files.proofs.clamped.clamped_warnings.Given as goal

-- the warnings of the files so far
abbrev pub invariant-loop-file : goal.invariant-loop-file
invariant-loop-file l = AreOfClamped (take l.file-index l.files) l.lines
