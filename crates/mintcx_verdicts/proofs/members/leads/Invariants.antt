use Rattle.std.proofs.Common.{◌↔◌, drop}
use Rattle.mintc_timing.specs.Paths.{Leads}
use Rattle.mintcx_verdicts.proofs.members.leads.Given as goal

-- the path leads on where the rest of it does
abbrev pub invariant-loop-number : goal.invariant-loop-number
invariant-loop-number l = Leads l.arcs l.fn.from l.path l.fn.to ↔ Leads l.arcs l.at (drop l.number-index l.path) l.fn.to
