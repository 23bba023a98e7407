use Rattle.std.proofs.Common.{◌≡◌, ◌+◌, ◌++◌, map}
use Rattle.std.specs.List.{range_with_len}
use Rattle.mintc_timing.specs.Paths.{output_of}
use Rattle.mintc_annotate.specs.Made.{arc_of, no_delay, inner_bit}
use Rattle.mintc_annotate.proofs.arcs.push_pins.Given as goal

abbrev pub invariant-loop-number : goal.invariant-loop-number
invariant-loop-number l =
    l.found.items ≡ l.initial.found.items ++ map (λ o. arc_of (output_of l.element) (inner_bit l.elements (l.first + o)) no_delay) (range_with_len l.inputs l.number)
