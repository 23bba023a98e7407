-- The table of slacks.
use Rattle.std.specs.Prelude.{ℕ, ℤ, List, [], ◌∷◌, codes, map}
use Rattle.mintc_text.specs.Lines.{numeral_of}
use Rattle.mintc_timing.specs.Design.{Timing, pair_at}
use Rattle.mintc_slack.specs.declared.finding.Slacks.{Slacks}
use Rattle.mintc_slack.specs.declared.finding.Slacks.TheVariants as slacks
use Rattle.mintcx_frame.specs.Names.{element_name}
use Rattle.mintcx_slacks.specs.Slacks.{AreBySlack, delay_of}
use Rattle.mintcx_csv.specs.Tables.{IsTable}

-- the head line
abbrev pub slack_fields : List (List ℕ)
slack_fields = codes "from" ∷ codes "to" ∷ codes "delay" ∷ codes "slack" ∷ []

-- the row of a pair: its elements, how long its data takes, and its slack, both in femtoseconds
abbrev pub slack_record : Timing → ℤ × ℕ → List (List ℕ)
slack_record t place =
    element_name t.flat (pair_at t place.1).from ∷ element_name t.flat (pair_at t place.1).to ∷
    numeral_of (delay_of t place.1) ∷ numeral_of place.0 ∷ []

-- the rows of all pairs, in the order of their places
abbrev pub slack_records : Timing → List (ℤ × ℕ) → List (List (List ℕ))
slack_records t places = slack_fields ∷ map (slack_record t) places

-- The text is the table of these slacks, the least slack first. Where no schedule is right, no pair has one, and the
-- head line stands alone.
abbrev pub IsSlackTable : Timing → Slacks → List ℕ → Type 0
IsSlackTable t (slacks.Least cycle extra) text =
    (places : List (ℤ × ℕ)) × AreBySlack extra places × IsTable (slack_records t places) text
IsSlackTable t slacks.Never text = IsTable (slack_records t []) text
