use Rattle.std.proofs.Common.{◌≡◌, ◌<◌, ℕ, pos, length, get_or}
use Rattle.mintc_departure.proofs.arrivals.fill.Given as goal

abbrev pub invariant-loop-number : goal.invariant-loop-number
invariant-loop-number l = record {
  kept : l.room ≡ record l.fn.room { values = l.room.values };
  count : length l.room.values ≡ l.count;
  filled : (k : ℕ) → k < l.number → get_or l.room.values k (pos 0) ≡ l.item;
}
