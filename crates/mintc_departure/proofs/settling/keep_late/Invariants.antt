use Rattle.std.proofs.Common.{◌≡◌, ◌<◌, ℕ, pos, length, get_or}
use Rattle.mintc_departure.proofs.settling.keep_late.Given as goal

-- the departures so far are the values, and nothing else has changed
abbrev pub invariant-loop-number : goal.invariant-loop-number
invariant-loop-number l = record {
  kept : l.room ≡ record l.fn.room { late = l.room.late };
  count : length l.room.late ≡ length l.fn.room.values;
  copied : (k : ℕ) → k < l.number → get_or l.room.late k (pos 0) ≡ get_or l.fn.room.values k (pos 0);
}
