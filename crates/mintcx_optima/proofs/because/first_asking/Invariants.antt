use Rattle.std.proofs.Common.{◌≡◌, drop}
use Rattle.std.specs.List.{find}
use Rattle.mintcx_optima.specs.Because.{asks}
use Rattle.mintcx_optima.proofs.because.first_asking.Given as goal

-- none so far asks for it
abbrev pub invariant-loop-element : goal.invariant-loop-element
invariant-loop-element l = find (asks l.phase l.width) (drop l.element-index l.elements) ≡ find (asks l.phase l.width) l.elements
