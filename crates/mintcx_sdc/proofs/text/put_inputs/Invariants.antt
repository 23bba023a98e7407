use Rattle.std.proofs.Common.{◌≡◌, ◌++◌, take}
use Rattle.std.specs.Prelude.{flat_map}
use Rattle.mintc_text.specs.Lines.{text_of}
use Rattle.mintcx_sdc.specs.Delays.{input_lines}
use Rattle.mintcx_sdc.proofs.text.put_inputs.Given as goal

-- the lines of the inputs so far are written
abbrev pub invariant-loop-input : goal.invariant-loop-input
invariant-loop-input l = l.lines ≡ l.fn.lines ++ text_of (flat_map (input_lines l.phases) (take l.input-index l.inputs))
