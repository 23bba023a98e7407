use Rattle.std.proofs.Common.{◌≡◌, ◌++◌, take}
use Rattle.std.specs.Prelude.{flat_map}
use Rattle.mintcx_picture.specs.Paths.{step_text}
use Rattle.mintcx_picture.proofs.paths.put_steps.Given as goal

-- the texts of the items so far are written
abbrev pub invariant-loop-step : goal.invariant-loop-step
invariant-loop-step l = l.lines ≡ l.fn.lines ++ flat_map step_text (take l.step-index l.steps)
