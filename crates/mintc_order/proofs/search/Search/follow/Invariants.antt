use Rattle.std.proofs.Common.{◌≢◌, ◌*◌, ◌-◌, ℕ, length, slice_index}
use Rattle.mintc_order.specs.Searches.{IsSearching, steps_of}
use Rattle.mintc_order.proofs.search.Search.follow.Given as goal

abbrev pub invariant-loop : goal.invariant-loop
invariant-loop l = record {
  search : IsSearching (length l.fn.self.marks.items) l.ranges l.self;
  stays : (v : ℕ) → slice_index l.initial.self.marks.items v ≢ 0 → slice_index l.self.marks.items v ≢ 0;
}

abbrev pub decreases-loop : goal.decreases-loop
decreases-loop l = 2 * length l.fn.self.marks.items - steps_of l.self
