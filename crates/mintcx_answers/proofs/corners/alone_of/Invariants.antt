use Rattle.std.proofs.Common.{take}
use Rattle.std.specs.List.{AllZip}
use Rattle.mintc_command_answers.specs.Jobs.{IsOptimum}
use Rattle.mintcx_answers.proofs.corners.alone_of.Given as goal

-- each corner so far has its certificate
abbrev pub invariant-loop-system : goal.invariant-loop-system
invariant-loop-system l = AllZip IsOptimum (take l.system-index l.systems) l.alone.items
