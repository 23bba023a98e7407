-- Designs within the limits, without a closed list of arcs or an overlong path.
use Rattle.std.specs.Prelude.{◌≡◌, ◌≢◌, ◌≤◌, ℕ, List, [], ◌∷◌, length, None, AllPairs}
use Rattle.mintc_text.specs.Limits.{usual}
use Rattle.mintc_text.specs.Refusals.{over_limit}
use Rattle.mintc_text.specs.declared.limits.Most.{Most}
use Rattle.mintc_text.specs.declared.refusals.Kind.TheVariants as kind
use Rattle.mintc_timing.specs.declared.parts.TimingArc.{TimingArc}
use Rattle.mintc_timing.specs.declared.parts.Pair.{Pair}
use Rattle.mintc_timing.specs.Design.{Design}
use Rattle.mintc_timing.specs.Limits.{IsDesign, IsWithinLimits, limit_of}
use Rattle.mintc_timing.specs.Order.{ArePathsShort, IsTiming}
use Rattle.mintc_timing.specs.Paths.{Leads, ArePairs, arc_at}

-- A closed list of arcs: some arcs, which lead from a bit back to it.
pub record IsArcLoop (arcs : List TimingArc) (loop : List ℕ) : Type 0 where
  pub some : loop ≢ []
  pub closed : (bit : ℕ) × Leads arcs bit loop bit

-- They leave no bit twice.
abbrev pub LeavesOnce : List TimingArc → List ℕ → Type 0
LeavesOnce arcs loop = AllPairs (λ m n. (arc_at arcs m).from ≢ (arc_at arcs n).from) loop

-- A run accepts a design where its numbers are within the limits of the run, no arcs lead round in a loop, no listed
-- path is too long, and its pairs are few.
pub record IsAccepted (most : Most) (design : Design) : Type 0 where
  pub limits : IsDesign design
  pub within : IsWithinLimits most design
  pub no_loop : (loop : List ℕ) → IsArcLoop design.arcs loop → ⊥
  pub short : ArePathsShort design
  pub few : (pairs : List Pair) → ArePairs design pairs → length pairs ≤ most.pairs

-- What isn't refused is within the limits of the run.
abbrev pub UnrefusedAreWithin : Type 0
UnrefusedAreWithin = (most : Most) (design : Design) → limit_of most design ≡ None → IsWithinLimits most design

-- What a run with the usual limits refuses a design for, in numbers.
abbrev pub UsualLimitsOfDesigns : Type 0
UsualLimitsOfDesigns = (design : Design) → limit_of usual design ≡
    over_limit ((kind.Inner, length design.inner, 262144) ∷ (kind.Phases, length design.phases, 8) ∷
    (kind.Elements, length design.elements, 2000) ∷ (kind.Arcs, length design.arcs, 524288) ∷
    (kind.Bounds, length design.bounds, 64) ∷ [])

-- What a design keeps that a run with the usual limits accepts.
abbrev pub UsuallyAccepted : Type 0
UsuallyAccepted = (design : Design) → IsAccepted usual design →
    (length design.inner ≤ 262144) × (length design.elements ≤ 2000) × (length design.arcs ≤ 524288)
    × ((pairs : List Pair) → ArePairs design pairs → length pairs ≤ 200000)

-- What a system keeps, with its numbers and its pairs within the limits of a run, is kept by designs alone that the
-- run accepts.
abbrev pub SystemsAreAccepted : Type 0
SystemsAreAccepted = (most : Most) (flat : Design) (order : List ℕ) (pairs : List Pair) → IsDesign flat →
    IsWithinLimits most flat → IsTiming flat order pairs → length pairs ≤ most.pairs →
    IsAccepted most flat
