-- Rows that are reached, and their sums.
use Rattle.std.proofs.Common.{◌≡◌, ◌≢◌, ℕ, Bool, true, false, List, length, set, length-set, get_or-set_same, get_or-set_other, arith, sym, ◌∙◌}
use Rattle.mintc_paths_sums.specs.declared.sums.Sums.{Sums}
use Rattle.mintc_paths_sums.specs.Sums.{sums_at}
use Rattle.mintc_paths.specs.Sums.{AreMarked}

-- a bit that gets sums, and its mark
pub marked_more : (old new : List Sums) (reached : List Bool) (bit : ℕ) → length new ≡ length old → ((other : ℕ) → other ≢ bit → sums_at new other ≡ sums_at old other) →
    AreMarked old reached → AreMarked new (set reached bit true)
marked_more old new reached bit same others m = record {
  count = length-set {A = Bool} reached bit true ∙ m.count ∙ sym same;
  none = λ b below off. grind (arith, get_or-set_same reached bit true false, get_or-set_other reached bit b true false, m.count, m.none b, others b);
}
