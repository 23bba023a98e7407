use Rattle.std.proofs.Common.{◌≡◌, ◌<◌, ◌≤◌, ℕ, pos, length, get_or}
use Rattle.mintc_slack.specs.WalkedFrom.{AreSettled}
use Rattle.mintc_slack.specs.Entries.{HasSettled, entry_at}
use Rattle.mintc_slack.specs.Ready.{IsReady}
use Rattle.mintc_slack.specs.Slack.{IsSlack}
use Rattle.mintc_slack.proofs.finding.extras.Given as goal

-- the slacks of the entries before this one are found, and the room has the values of the last of them
abbrev pub invariant-loop-place : goal.invariant-loop-place
invariant-loop-place g l = record {
  ready : IsReady l.system l.list l.cycle l.walker;
  nodes : l.list.nodes ≤ l.room.nodes;
  chain : length l.room.chain ≤ l.list.nodes;
  settled : (e : ℕ) → HasSettled l.entries.items l.place e → AreSettled l.system l.cycle e l.room.values;
  count : length l.extra.items ≡ length l.system.pairs;
  done : (k : ℕ) → k < l.place → IsSlack l.system l.cycle.num l.cycle.den (entry_at l.entries.items k).number (get_or l.extra.items (entry_at l.entries.items k).number (pos 0));
}
