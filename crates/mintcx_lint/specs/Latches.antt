-- Pairs of latches on one phase. Of the elements of a design that files give, the first are its latches and flops, and
-- those behind them the bits of listed ports.
use Rattle.std.specs.Prelude.{◌≡◌, ◌==◌, ◌<◌, ℕ, Bool, not, ◌&&◌, nat_lt, List, ◌∷◌, filter, length, slice_get}
use Rattle.std.specs.Prelude.{IfSome}
use Rattle.mintc_timing.specs.declared.parts.Pair.{Pair}
use Rattle.mintc_timing.specs.Design.{Design, Timing, element_at, phase_of}
use Rattle.mintcx_lint.specs.declared.latches.SamePhase.{SamePhase}
use Rattle.mintcx_lint.specs.declared.latches.Tally.{Tally}

-- whether an element is a latch: one of the first, so many of which are latches or flops, and no flop
abbrev pub is_latch : Design → ℕ → ℕ → Bool
is_latch d storage l = nat_lt l storage && not (element_at d l).flop

-- whether a pair leads from a latch to a latch on the same phase
abbrev pub joins_latches : Design → ℕ → Pair → Bool
joins_latches d storage pair =
    is_latch d storage pair.from && is_latch d storage pair.to && (phase_of d pair.from == phase_of d pair.to)

-- the pairs of a system that do, in their order
abbrev pub same_pairs : Timing → ℕ → List Pair
same_pairs t storage = filter (joins_latches t.flat storage) t.pairs

-- There are such pairs: so many, and this is the first.
pub record IsSamePhase (t : Timing) (storage : ℕ) (found : SamePhase) : Type 0 where
  pub later : List Pair
  pub first : same_pairs t storage ≡ found.first ∷ later
  pub count : found.count ≡ length (same_pairs t storage)

-- how many pairs there are, and the first
pub record IsTally (pairs : List Pair) (tally : Tally) : Type 0 where
  pub count : tally.count ≡ length pairs
  pub first : tally.first ≡ slice_get pairs 0

-- the first of them, where there is one, is between elements that are there
abbrev pub IsInside : ℕ → Tally → Type 0
IsInside count tally = IfSome tally.first (λ pair. (pair.from < count) × (pair.to < count))
