use Rattle.std.proofs.Common.{All, take}
use Rattle.mintcx_tables.specs.Obstacles.{IsNamed}
use Rattle.mintcx_tables.proofs.obstacles.unnamed_element.Given as goal

-- the elements so far have names
abbrev pub invariant-loop-element : goal.invariant-loop-element
invariant-loop-element l = All IsNamed (take l.element l.elements)
