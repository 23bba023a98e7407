-- The list of slacks, or why there is none.
use Rattle.std.specs.Prelude.{◌≡◌, ℤ, List, length}
use Rattle.mintc_fraction.specs.Ratio.{Ratio, IsLowest, IsModest}
use Rattle.mintc_timing.specs.Design.{Timing}
use Rattle.mintc_timing.specs.Right.{IsHopeless, IsLeastCycle}
use Rattle.mintc_slack.specs.declared.finding.Slacks.{Slacks}
use Rattle.mintc_slack.specs.declared.finding.Slacks.TheVariants.{Least, Never}
use Rattle.mintc_slack.specs.Slack.{AreSlacks}

-- The least cycle in lowest terms, and the slack of each pair; or no schedule is right.
pub record HasSlacks (t : Timing) (cycle : Ratio) (extra : List ℤ) : Type 0 where
  pub least : IsLeastCycle t cycle.num cycle.den
  pub lowest : IsLowest cycle
  pub modest : IsModest cycle
  pub slacks : AreSlacks t cycle.num cycle.den extra

-- What `slack` finds: so it is, or no schedule is right.
abbrev pub IsSlackAnswer : Timing → Slacks → Type 0
IsSlackAnswer t (Least cycle extra) = HasSlacks t cycle extra
IsSlackAnswer t Never = IsHopeless t

-- The cycle is modest, and there is a number for each pair.
abbrev pub AreOfPairs : Timing → Slacks → Type 0
AreOfPairs t (Least cycle extra) = IsModest cycle × (length extra ≡ length t.pairs)
AreOfPairs t Never = Unit {0}
