use Rattle.std.proofs.Common.{map, take}
use Rattle.mintc_command_answers.specs.Corners.{AreGiven, files_with}
use Rattle.mintc_command_answers.proofs.corners_answers.corner_systems.Given as goal

-- the corners so far have given the systems so far
abbrev pub invariant-loop-corner : goal.invariant-loop-corner
invariant-loop-corner l = AreGiven l.limits (map (files_with l.texts) (take l.corner-index l.delays)) l.systems.items
