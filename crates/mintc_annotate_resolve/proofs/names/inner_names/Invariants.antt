use Rattle.std.proofs.Common.{◌≡◌, map, take}
use Rattle.mintc_annotate_resolve.specs.Pins.{inner_name}
use Rattle.mintc_annotate_resolve.proofs.names.inner_names.Given as goal

-- the names of the bits so far
abbrev pub invariant-loop-bit : goal.invariant-loop-bit
invariant-loop-bit l = l.names.items ≡ map (inner_name l.hierarchy) (take l.bit-index l.hierarchy.inner)
