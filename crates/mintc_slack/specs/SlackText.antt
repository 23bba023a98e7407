-- Slack texts.
use Rattle.std.specs.Prelude.{ℕ, ℤ, List, [], ◌∷◌, ◌++◌, map, codes}
use Rattle.std.specs.List.{zip}
use Rattle.mintc_text.specs.Lines.{words, numeral_of, fraction_word}
use Rattle.mintc_fraction.specs.Ratio.{Ratio, IsLowest}
use Rattle.mintc_timing.specs.declared.parts.Pair.{Pair}
use Rattle.mintc_timing.specs.Design.{Design, Timing, element_at}
use Rattle.mintc_slack.specs.declared.finding.Slacks.{Slacks}
use Rattle.mintc_slack.specs.declared.finding.Slacks.TheVariants.{Least, Never}

-- a pair, by the names of its elements, with its slack
abbrev pub slack_line : Design → Pair × ℤ → List ℕ
slack_line design p = words (codes "slack" ∷ (element_at design p.0.from).name ∷ (element_at design p.0.to).name ∷
    numeral_of p.1 ∷ [])

-- the least cycle and the slack of each pair, in order; or one word
abbrev pub slack_lines : Timing → Slacks → List (List ℕ)
slack_lines t (Least cycle extra) = words (codes "cycle" ∷ fraction_word cycle.num cycle.den ∷ []) ∷
    map (slack_line t.flat) (zip t.pairs extra)
slack_lines t Never = codes "never" ∷ []

-- The cycle, where there is one, is in lowest terms.
abbrev pub HasLowestCycle : Slacks → Type 0
HasLowestCycle (Least cycle extra) = IsLowest cycle
HasLowestCycle Never = Unit {0}
