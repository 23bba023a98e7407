-- The list of slacks in words.
use Rattle.std.specs.Prelude.{◌≡◌, ◌==◌, ◌-◌, ◌+ℤ◌, ℕ, zero, suc, ℤ, pos, List, [], ◌∷◌, ◌++◌, codes, decimal, map}
use Rattle.std.specs.Prelude.{filter, take}
use Rattle.std.specs.Prelude.{length, slice_index_or, int_le, if◌then◌else◌}
use Rattle.std.specs.List.{range_with_len}
use Rattle.std.specs.List.Sorted.{IsPermutation, IsSorted}
use Rattle.std.specs.Ordering.{nat_cmp, int_cmp, ordering_then}
use Rattle.std.specs.declared.cmp.Ordering.{Ordering}
use Rattle.mintc_fraction.specs.Ratio.{Ratio, over}
use Rattle.mintc_text.specs.Lines.{ended}
use Rattle.mintc_timing.specs.Design.{Timing, element_at, pair_at}
use Rattle.mintc_slack.specs.declared.finding.Slacks.{Slacks}
use Rattle.mintc_slack.specs.declared.finding.Slacks.TheVariants as slacks
use Rattle.mintcx_amounts.specs.declared.unit.Unit.{Unit}
use Rattle.mintcx_amounts.specs.Amounts.{amount_text}
use Rattle.mintcx_columns.specs.declared.cells.Column.{Column}
use Rattle.mintcx_columns.specs.Tables.{Grid, table_text}
use Rattle.mintcx_frame.specs.declared.view.View.{View}
use Rattle.mintcx_frame.specs.Ends.{head_text, foot_text, subject_text, unit_for}
use Rattle.mintcx_frame.specs.Names.{element_name}
use Rattle.mintcx_frame.specs.Phases.{left, right}
use Rattle.mintcx_frame.specs.Rows.{shown_rows}
use Rattle.mintcx_manners.specs.declared.manners.Limit.{Limit}

-- a number of whole femtoseconds
abbrev pub whole_text : Unit → ℤ → List ℕ
whole_text unit time = amount_text unit (over time (pos 1))

-- how long the data of a pair takes at the most, from the input of its first element to that of its second
abbrev pub delay_of : Timing → ℕ → ℤ
delay_of t n = (element_at t.flat (pair_at t n).from).dq_max +ℤ (pair_at t n).max

-- The places of pairs, each its slack and its number: those of all pairs, the least slack first.
abbrev pub place_cmp : ℤ × ℕ → ℤ × ℕ → Ordering
place_cmp x y = ordering_then (int_cmp x.0 y.0) (nat_cmp x.1 y.1)

abbrev pub place_of : List ℤ → ℕ → ℤ × ℕ
place_of extra n = (slice_index_or extra n (pos 0), n)

pub record AreBySlack (extra : List ℤ) (places : List (ℤ × ℕ)) : Type 0 where
  pub permutation : IsPermutation (map (place_of extra) (range_with_len 0 (length extra))) places
  pub sorted : IsSorted place_cmp places

-- the row of a pair: its slack, its elements, and how long its data takes
abbrev pub slack_row : Timing → Unit → ℤ × ℕ → List (List ℕ)
slack_row t unit place =
    whole_text unit place.0 ∷ element_name t.flat (pair_at t place.1).from ∷
    element_name t.flat (pair_at t place.1).to ∷ whole_text unit (delay_of t place.1) ∷ []

-- the table of some places
abbrev pub slack_columns : List Column
slack_columns = right ∷ left ∷ left ∷ right ∷ []

abbrev pub slack_head : List (List ℕ)
slack_head = codes "slack" ∷ codes "from" ∷ codes "to" ∷ codes "delay" ∷ []

abbrev pub slack_grid : Timing → Unit → List (ℤ × ℕ) → Grid
slack_grid t unit places = record { columns = slack_columns; rows = slack_head ∷ map (slack_row t unit) places }

-- the greatest slack, which is that of the last place
abbrev pub greatest_slack : List (ℤ × ℕ) → ℤ
greatest_slack places = (slice_index_or places (length places - 1) (pos 0, 0)).0

-- the line for places that are left out; none for none
abbrev pub rest_text : Unit → ℤ → ℕ → List ℕ
rest_text unit greatest zero = []
rest_text unit greatest (suc n) =
    codes "  " ++ decimal (suc n) ++ codes " more, up to " ++ whole_text unit greatest ++ codes " (--limit all)" ++
    10 ∷ []

-- how many pairs have no slack
abbrev pub tight_count : List ℤ → ℕ
tight_count extra = length (filter (λ u. int_le u (pos 0)) extra)

-- the line that counts the pairs
abbrev pub tight_text : ℕ → List ℕ
tight_text zero = codes "each has some slack"
tight_text (suc zero) = codes "1 has no slack and holds the clock back"
tight_text (suc (suc n)) = decimal (suc (suc n)) ++ codes " have no slack and hold the clock back"

abbrev pub pairs_word : ℕ → List ℕ
pairs_word n = if n == 1 then codes " pair of elements; " else codes " pairs of elements; "

abbrev pub pairs_line : List ℤ → List ℕ
pairs_line extra = decimal (length extra) ++ pairs_word (length extra) ++ tight_text (tight_count extra)

-- what the column slack says
abbrev pub slack_note : List ℕ
slack_note = codes "slack is how much a pair's delay may grow, alone, at this cycle"

-- the pairs with their slacks, as many as a limit allows, and the line for those that it leaves out
abbrev pub listed_text : Timing → Unit → Limit → List (ℤ × ℕ) → List ℕ
listed_text t unit limit places = table_text (slack_grid t unit (take (shown_rows limit (length places)) places))
    ++ rest_text unit (greatest_slack places) (length places - shown_rows limit (length places))

-- the text of slacks at a least cycle
abbrev pub least_text : Timing → Ratio → List ℤ → View → List (ℤ × ℕ) → List ℕ
least_text t cycle extra view places =
    let unit = unit_for view.unit cycle in
    head_text (codes "slack") cycle view ++ 10 ∷ [] ++ ended (pairs_line extra) ++ 10 ∷ []
    ++ listed_text t unit view.limit places ++ 10 ∷ [] ++ foot_text unit slack_note

-- the text where no schedule is right
abbrev pub never_text : View → List ℕ
never_text view = codes "never  no schedule is right, whatever its cycle time" ++ subject_text view.subject

-- The text is that of these slacks.
abbrev pub IsSlackText : Timing → View → Slacks → List ℕ → Type 0
IsSlackText t view (slacks.Least cycle extra) text =
    (places : List (ℤ × ℕ)) × AreBySlack extra places × (text ≡ least_text t cycle extra view places)
IsSlackText t view slacks.Never text = text ≡ never_text view
