use Rattle.std.proofs.Common.{◌≡◌, ◌++◌, map}
use Rattle.std.specs.List.{range_with_len}
use Rattle.mintcx_json.specs.Clocks.{element_value}
use Rattle.mintcx_json.specs.Pieces.{values_tokens}
use Rattle.mintcx_json.proofs.clocks.put_each_element.Given as goal

-- the elements so far are written
abbrev pub invariant-loop-number : goal.invariant-loop-number
invariant-loop-number l = l.sheet ≡ l.initial.sheet ++ values_tokens (map (element_value l.flat l.departures) (range_with_len 0 l.number))
