-- That each system has slacks.
use Rattle.mintc_timing.specs.Design.{Timing}
use Rattle.mintc_timing.specs.Limits.{IsDesign}
use Rattle.mintc_timing.specs.Order.{IsTiming}
use Rattle.mintc_slack.specs.Answers.{IsSlackAnswer}
use Rattle.mintc_slack.specs.declared.finding.Slacks.{Slacks}

-- Each system has its least cycle with the slack of each pair, or no schedule is right.
abbrev pub SlacksExist : Type 0
SlacksExist = (t : Timing) → IsDesign t.flat → IsTiming t.flat t.order t.pairs → (x : Slacks) × IsSlackAnswer t x
