-- What walks from elements begin with.
use Rattle.std.specs.Prelude.{◌≡◌, ◌<◌, ◌≤◌, length}
use Rattle.std.specs.Bool.{OnTrue}
use Rattle.mintc_text.specs.declared.limits.TheConstants.{SHORT_NODES}
use Rattle.mintc_fraction.specs.Ratio.{Ratio}
use Rattle.mintc_timing.specs.Design.{Timing}
use Rattle.mintc_timing.specs.Links.{links_of, node_count}
use Rattle.mintc_constraints.specs.Ordinary.{Constraints, constraints_of}
use Rattle.mintc_slack.specs.Short.{IsShortCycle}
use Rattle.mintc_slack.specs.declared.walked.SlackWalks.{SlackWalks}
use Rattle.mintc_slack.specs.Gaps.{AreGaps}
use Rattle.mintc_slack.specs.Rows.{AreInRows}

-- The walker is over the links of a timing at this cycle time, with a distance for each node; and its gaps stand in
-- their rows where it says so.
pub record IsReady (t : Timing) (list : Constraints) (at : Ratio) (w : SlackWalks) : Type 0 where
  pub system : w.system.now ≡ t
  pub list_is : w.list.now ≡ list
  pub at_is : w.at.now ≡ at
  pub links : list ≡ constraints_of (node_count t.flat) (links_of t)
  pub cycle : IsShortCycle at
  pub short : list.nodes ≤ SHORT_NODES
  pub hub : w.hub < list.nodes
  pub gaps : AreGaps list at w.hub w.potentials.items w.rows.gaps.items
  pub rows : OnTrue w.in_rows (AreInRows w.rows.gaps.items w.rows.firsts.items)
  pub count : length w.distances.items ≡ list.nodes
