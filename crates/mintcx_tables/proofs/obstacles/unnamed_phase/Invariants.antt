use Rattle.std.proofs.Common.{All, take}
use Rattle.mintc_timing_text.specs.Fields.{IsName}
use Rattle.mintcx_tables.proofs.obstacles.unnamed_phase.Given as goal

-- the phases so far have names
abbrev pub invariant-loop-phase : goal.invariant-loop-phase
invariant-loop-phase l = All IsName (take l.phase l.phases)
