use Rattle.std.proofs.Common.{◌≡◌, ◌<◌, ◌≤◌, ◌+ℤ◌, ◌≤ℤ◌, ℕ}
use Rattle.mintc_graph_walks.specs.Walks.{value_at}
use Rattle.mintc_slack.specs.Rows.{gap_at, row_at}
use Rattle.mintc_slack.proofs.nearest.is_row_least.Given as goal

-- the gaps of the row before this place make no distance less
abbrev pub invariant-loop-place : goal.invariant-loop-place
invariant-loop-place l = record {
  begun : row_at l.rows.firsts.items l.node ≤ l.place;
  before : (k : ℕ) → k < l.place → row_at l.rows.firsts.items l.node ≤ k → (gap_at l.rows.gaps.items k).from ≡ l.node →
      value_at l.distances (gap_at l.rows.gaps.items k).to ≤ℤ (value_at l.distances (gap_at l.rows.gaps.items k).from +ℤ (gap_at l.rows.gaps.items k).rest);
}
