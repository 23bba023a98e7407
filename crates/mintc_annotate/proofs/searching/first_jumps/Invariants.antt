use Rattle.std.proofs.Common.{◌≡◌, map, None, slice_index_or}
use Rattle.std.specs.List.{range_with_len}
use Rattle.mintc_annotate.specs.Searches.{first_jump}
use Rattle.mintc_annotate.proofs.searching.first_jumps.Given as goal

abbrev pub invariant-loop-bit : goal.invariant-loop-bit
invariant-loop-bit l = l.found.items ≡ map (λ b. first_jump b (slice_index_or l.table b None)) (range_with_len 0 l.bit)
