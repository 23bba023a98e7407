use Rattle.std.proofs.Common.{◌≡◌, ◌++◌, take}
use Rattle.mintcx_chain.specs.Through.{few_text}
use Rattle.mintcx_chain.proofs.through.put_names.Given as goal

-- the names so far are written
abbrev pub invariant-loop-at : goal.invariant-loop-at
invariant-loop-at l = l.lines ≡ l.fn.lines ++ few_text (take l.at l.gates)
