-- How many pairs have how much slack.
use Rattle.std.specs.Prelude.{◌≡◌, ◌==◌, ◌<◌, ◌≤◌, ◌+◌, ◌*◌, ◌/◌, ◌%◌, ◌^◌, ℕ, zero, suc, ℤ, pos, List, [], ◌∷◌, ◌++◌}
use Rattle.std.specs.Prelude.{codes}
use Rattle.std.specs.Prelude.{decimal, map, filter, length, replicate, if◌then◌else◌, unsigned_abs, max}
use Rattle.std.specs.Int.{div_ceil}
use Rattle.std.specs.List.{fold, range_with_len}
use Rattle.mintc_fraction.specs.Ratio.{Ratio, over}
use Rattle.mintc_text.specs.Lines.{ended}
use Rattle.mintc_slack.specs.declared.finding.Slacks.{Slacks}
use Rattle.mintc_slack.specs.declared.finding.Slacks.TheVariants as slacks
use Rattle.mintcx_amounts.specs.declared.unit.Unit.{Unit}
use Rattle.mintcx_columns.specs.declared.cells.Column.{Column}
use Rattle.mintcx_columns.specs.Tables.{Grid, table_text}
use Rattle.mintcx_frame.specs.declared.view.View.{View}
use Rattle.mintcx_frame.specs.Ends.{head_text, foot_text, unit_for}
use Rattle.mintcx_frame.specs.Phases.{left, right}
use Rattle.mintcx_slacks.specs.Slacks.{whole_text, pairs_line, never_text}

-- the steps 1, 2, 5, 10, 20, 50, .. in femtoseconds, by their numbers
abbrev pub lead_of : ℕ → ℕ
lead_of n = if n % 3 == 0 then 1 else if n % 3 == 1 then 2 else 5

abbrev pub step_at : ℕ → ℕ
step_at n = lead_of n * 10 ^ (n / 3)

-- the greatest of some slacks, none of which is below 0
abbrev pub most_of : List ℤ → ℕ
most_of extra = fold (λ most u. max most (unsigned_abs u)) 0 extra

-- The step is the least of these of which twelve are as much as the greatest slack.
pub record IsStep (greatest n : ℕ) : Type 0 where
  pub enough : greatest ≤ 12 * step_at n
  pub least : (k : ℕ) → k < n → 12 * step_at k < greatest

-- The bar of a slack: bar 0 is of no slack, bar b of those above b - 1 steps and at most b steps.
abbrev pub bar_of : ℕ → ℤ → ℕ
bar_of step u = div_ceil (unsigned_abs u) step

-- how many slacks are of a bar
abbrev pub count_of : ℕ → List ℤ → ℕ → ℕ
count_of step extra b = length (filter (λ u. bar_of step u == b) extra)

-- the bar of a count, of which the fullest has 40 signs
abbrev pub signs_of : ℕ → ℕ → List ℕ
signs_of fullest count = replicate (div_ceil (count * 40) fullest) 35

-- what a bar is called
abbrev pub end_text : Unit → ℕ → List ℕ
end_text unit end = codes "up to " ++ whole_text unit (pos end)

abbrev pub bar_name : Unit → ℕ → ℕ → List ℕ
bar_name unit step zero = codes "none"
bar_name unit step (suc b) = end_text unit (suc b * step)

-- the row of a bar, and the table of the bars up to that of the greatest slack
abbrev pub bar_row : Unit → ℕ → List ℤ → ℕ → ℕ → List (List ℕ)
bar_row unit step extra fullest b =
    bar_name unit step b ∷ decimal (count_of step extra b) ∷ signs_of fullest (count_of step extra b) ∷ []

abbrev pub bar_columns : List Column
bar_columns = right ∷ right ∷ left ∷ []

abbrev pub bar_head : List (List ℕ)
bar_head = codes "slack" ∷ codes "pairs" ∷ []

-- the numbers of the bars, and how many slacks the fullest has
abbrev pub bars_of : ℕ → List ℤ → List ℕ
bars_of step extra = range_with_len 0 (div_ceil (most_of extra) step + 1)

abbrev pub fullest_of : ℕ → List ℤ → ℕ
fullest_of step extra = fold (λ most b. max most (count_of step extra b)) 1 (bars_of step extra)

abbrev pub bar_grid : Unit → ℕ → List ℤ → Grid
bar_grid unit step extra = record {
  columns = bar_columns;
  rows = bar_head ∷ map (bar_row unit step extra (fullest_of step extra)) (bars_of step extra);
}

-- the whole text
abbrev pub histogram_text : Ratio → List ℤ → View → ℕ → List ℕ
histogram_text cycle extra view step =
    let unit = unit_for view.unit cycle in
    head_text (codes "slack") cycle view ++ 10 ∷ [] ++ ended (pairs_line extra) ++ 10 ∷ []
    ++ table_text (bar_grid unit step extra) ++ 10 ∷ [] ++ foot_text unit []

-- The text is the histogram of these slacks.
abbrev pub IsHistogramText : View → Slacks → List ℕ → Type 0
IsHistogramText view (slacks.Least cycle extra) text =
    (n : ℕ) × IsStep (most_of extra) n × (text ≡ histogram_text cycle extra view (step_at n))
IsHistogramText view slacks.Never text = text ≡ never_text view
