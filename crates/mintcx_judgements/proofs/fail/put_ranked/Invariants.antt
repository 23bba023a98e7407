use Rattle.std.proofs.Common.{◌≡◌, ◌++◌, take}
use Rattle.mintcx_judgements.specs.Fails.{ranked_text}
use Rattle.mintcx_judgements.proofs.fail.put_ranked.Given as goal

-- the violations so far are written
abbrev pub invariant-loop-place : goal.invariant-loop-place
invariant-loop-place l = l.lines ≡ l.fn.lines
    ++ ranked_text l.causes.told.system.now l.causes.told.schedule.now l.causes.late.now l.causes.early.now l.causes.told.unit l.violations (take l.place-index l.places)
