use Rattle.std.proofs.Common.{◌≡◌, ◌≢◌, ◌<◌, ℕ, [], slice_index}
use Rattle.mintc_order.specs.Searches.{IsSearching}
use Rattle.mintc_order.proofs.searched_order.Given as goal

abbrev pub invariant-loop-root : goal.invariant-loop-root
invariant-loop-root l = record {
  search : IsSearching l.bits l.ranges l.search;
  empty : l.search.path.items ≡ [];
  met : (bit : ℕ) → bit < l.root → slice_index l.search.marks.items bit ≢ 0;
}
