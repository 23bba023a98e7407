use Rattle.std.proofs.Common.{◌≤◌, ◌<◌, ◌^◌, ℕ, length}
use Rattle.mintc_bitset.specs.BitSet.{IsIn, room}
use Rattle.mintc_departure.proofs.rising.all_of.Given as goal

-- the places so far are in it
abbrev pub invariant-loop-place : goal.invariant-loop-place
invariant-loop-place l = record {
  places : l.count ≤ room l.places.words.items;
  few : length l.places.words.items ≤ 2 ^ 32;
  all : (k : ℕ) → k < l.place → IsIn l.places.words.items k;
}
