use Rattle.std.proofs.Common.{◌≡◌, ◌++◌, take}
use Rattle.std.specs.Prelude.{flat_map}
use Rattle.mintc_text.specs.Lines.{text_of}
use Rattle.mintcx_sdc.specs.Delays.{output_lines}
use Rattle.mintcx_sdc.proofs.text.put_outputs.Given as goal

-- the lines of the outputs so far are written
abbrev pub invariant-loop-output : goal.invariant-loop-output
invariant-loop-output l = l.lines ≡ l.fn.lines ++ text_of (flat_map (output_lines l.phases) (take l.output-index l.outputs))
