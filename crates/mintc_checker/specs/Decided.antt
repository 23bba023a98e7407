-- What the tests speak of: the design with all its pairs.
use Rattle.std.specs.Prelude.{◌≡◌, ◌+◌, ◌-◌, ◌*◌, ℕ, Bool, false, List, length, slice_index_or, IsTrue, ◌↔◌}
use Rattle.mintc_text.specs.declared.limits.TheConstants.{MOST_PHASES}
use Rattle.mintc_timing.specs.Clocking.{feeds_of}
use Rattle.mintc_timing.specs.Design.{Design, Timing}
use Rattle.mintc_timing.specs.Limits.{IsPhase}
use Rattle.mintc_timing.specs.Paths.{ArePairs}

-- The claim holds of the design with all its pairs, whatever order of its arcs is given.
abbrev pub OfTiming : Design → (Timing → Type 0) → Type 0
OfTiming design P = (t : Timing) → t.flat ≡ design → ArePairs t.flat t.pairs → P t

-- The answer to a test is true exactly where the claim holds.
abbrev pub Decides : Design → Bool → (Timing → Type 0) → Type 0
Decides design answer P = OfTiming design (λ t. IsTrue answer ↔ P t)

-- The table has, at place 8 * (i - 1) + (j - 1), whether phase i feeds phase j.
pub record IsFed (design : Design) (fed : List Bool) : Type 0 where
  pub count : length fed ≡ 64
  pub each : (i j : ℕ) → IsPhase MOST_PHASES i → IsPhase MOST_PHASES j →
      OfTiming design (λ t. slice_index_or fed (8 * (i - 1) + (j - 1)) false ≡ feeds_of t i j)
