-- What a search has given out in the end.
use Rattle.std.proofs.Common.{◌≡◌, ◌≢◌, ℕ, ◌-◌, ◌<◌, List, [], length, get_or, ap, arith}
use Rattle.std.specs.List.{Contains}
use Rattle.mintc_order.specs.OutgoingArcs.{AreParts}
use Rattle.mintc_order.specs.Searches.{AreAfterEnds, IsSearch}

-- Once the path is empty and all bits are met, all are given out.
module _ {bits : ℕ} {starts numbers ends marks path nexts given : List ℕ} (s : AreParts bits starts numbers ends × IsSearch bits starts ends marks path nexts given) (read : List ℕ) (same : read ≡ given) where
  count : length starts - 1 ≡ bits
  count = omega arith

  pub ordered_at_end : AreAfterEnds (length starts - 1) starts ends read
  ordered_at_end = rw (count, same) s.1.are_given.ordered

  pub whole_at_end : path ≡ [] → ((bit : ℕ) → bit < bits → get_or marks bit 0 ≢ 0) → (bit : ℕ) → bit < length starts - 1 → Contains read bit
  whole_at_end empty met bit h =
      let none = ap (λ (xs : List ℕ). length xs) empty in
      let one : get_or marks bit 0 ≡ 1 = grind (arith, met bit, s.1.is_path.placed bit (get_or marks bit 0 - 2)) in
      rw same (s.1.are_given.whole bit one)
