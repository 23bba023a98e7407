use Rattle.std.proofs.Common.{◌≡◌, ◌++◌, map, take}
use Rattle.mintc_annotate.specs.Counts.{place_bit}
use Rattle.mintc_annotate.proofs.listing.push_bits.Given as goal

abbrev pub invariant-loop-bit : goal.invariant-loop-bit
invariant-loop-bit l = l.found.items ≡ l.initial.found.items ++ map (place_bit l.place) (take l.bit-index l.bits)
