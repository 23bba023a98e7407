use Rattle.std.proofs.Common.{◌≡◌, ◌++◌}
use Rattle.std.specs.Prelude.{flat_map}
use Rattle.std.specs.List.{range_with_len}
use Rattle.mintc_text.specs.Lines.{text_of}
use Rattle.mintcx_sdc.specs.Clocks.{clock_lines}
use Rattle.mintcx_sdc.proofs.text.put_phases.Given as goal

-- the lines of the phases so far are written
abbrev pub invariant-loop-at : goal.invariant-loop-at
invariant-loop-at l = l.lines ≡ l.fn.lines ++ text_of (flat_map (clock_lines l.phases l.schedule) (range_with_len 0 l.at))
