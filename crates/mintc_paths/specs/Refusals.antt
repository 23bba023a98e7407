-- Where no pairs are given.
use Rattle.std.specs.Prelude.{◌≡◌, ◌<◌, ℕ, ◌≤ℤ◌, ◌<ℤ◌, List, length, min}
use Rattle.mintc_text.specs.declared.limits.TheConstants.{MOST_DELAY, MOST_TOLD}
use Rattle.mintc_text.specs.declared.limits.Most.{Most}
use Rattle.mintc_text.specs.declared.refusals.Kind.TheVariants as kind
use Rattle.mintc_text.specs.declared.refusals.Refusal.{Refusal}
use Rattle.mintc_text.specs.declared.refusals.Refusal.TheVariants as refusal
use Rattle.mintc_timing.specs.declared.parts.Pair.{Pair}
use Rattle.mintc_timing.specs.Design.{Design}
use Rattle.mintc_timing.specs.Order.{ArePathsShort}
use Rattle.mintc_timing.specs.Paths.{IsPath, greatest_delay, ArePairs}

-- a listed path from element j to a bit whose greatest delay is above 10^9 femtoseconds
abbrev pub IsLong : Design → ℕ → ℕ → List ℕ → Type 0
IsLong design j bit path = IsPath design.arcs j path bit × (MOST_DELAY <ℤ greatest_delay design.arcs path)

-- Element j is the first that such a path leaves, and the bit the first that one from there leads to.
pub record IsFirstLong (design : Design) (j bit : ℕ) : Type 0 where
  pub element : j < length design.elements
  pub long : (path : List ℕ) × IsLong design j bit path
  pub first_element : (i other : ℕ) (path : List ℕ) → i < j → IsLong design i other path → ⊥
  pub first_bit : (other : ℕ) (path : List ℕ) → other < bit → IsLong design j other path → ⊥

-- No such path leaves an element before this one.
abbrev pub AreShortBefore : Design → ℕ → Type 0
AreShortBefore design first = (j bit : ℕ) (path : List ℕ) → j < first → IsPath design.arcs j path bit →
    greatest_delay design.arcs path ≤ℤ MOST_DELAY

-- PathRange with the first element and bit
abbrev pub IsPathRange : Design → Refusal → Type 0
IsPathRange design (refusal.PathRange j bit) = IsFirstLong design j bit
IsPathRange design _ = ⊥

-- No path is long, and so many pairs are more than a run takes; the count is theirs, or 10^9 where they are more.
abbrev pub AreTooMany : Most → Design → ℕ → Type 0
AreTooMany most design count = ArePathsShort design
    × ((pairs : List Pair) × ArePairs design pairs × (most.pairs < length pairs)
    × (count ≡ min (length pairs) MOST_TOLD))

-- PathRange with the first element and bit, or Limit of the pairs.
abbrev pub IsExtremesRefusal : Most → Design → Refusal → Type 0
IsExtremesRefusal most design (refusal.PathRange j bit) = IsFirstLong design j bit
IsExtremesRefusal most design (refusal.Limit kind.Pairs count) = AreTooMany most design count
IsExtremesRefusal most design _ = ⊥
