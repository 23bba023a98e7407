use Rattle.std.proofs.Common.{◌≡◌, ◌++◌, take}
use Rattle.mintcx_verdicts.specs.Rules.{rules_text}
use Rattle.mintcx_verdicts.proofs.rules.put_rules.Given as goal

-- the rules so far are written
abbrev pub invariant-loop-violation : goal.invariant-loop-violation
invariant-loop-violation l = l.lines ≡ l.fn.lines
    ++ rules_text l.told.system.now l.told.schedule.now l.told.unit l.bounds (take l.violation-index l.violations)
