use Rattle.std.proofs.Common.{take}
use Rattle.mintc_flatten_binding.specs.Named.{IsIndex}
use Rattle.mintc_flatten_binding.proofs.bindings.ModuleIndex.new.Given as goal

-- the index is of the modules so far
abbrev pub invariant-loop-number : goal.invariant-loop-number
invariant-loop-number l = IsIndex l.names l.numbers.items (take l.number l.modules)
