-- What is taken in of delays.
use Rattle.std.specs.Prelude.{◌≡◌, ◌<◌, ◌==◌, ◌++◌, ◌∷◌, [], if◌then◌else◌, ℕ, ℤ, List, map, length}
use Rattle.std.specs.Prelude.{slice_index_or, None, Some, Vec}
use Rattle.std.specs.Global.{Global}
use Rattle.mintc_annotate_resolve.specs.declared.targets.Resolved.{Resolved as Answer}
use Rattle.mintc_annotate_resolve.specs.declared.targets.Resolved.TheVariants as answer
use Rattle.mintc_annotate_delays.specs.declared.ranges.Ranges.{Ranges}
use Rattle.mintc_annotate_resolve.specs.Resolution.{Target, Resolved, Said, targets, refusal_of}
use Rattle.mintc_annotate_delays.specs.Ranges.{HasPlace, HasRanges, IsSameRoom}

-- one more leaf of a cell
abbrev pub IsGroupedIn : List (Vec ℕ Global) → List (Vec ℕ Global) → ℕ → ℕ → Type 0
IsGroupedIn old new cell leaf =
    (length new ≡ length old)
    × ((c : ℕ) (d : Vec ℕ Global) → c < length old → (slice_index_or new c d).items ≡ (slice_index_or old c d).items
    ++ (if c == cell then leaf ∷ [] else []))

-- what is said of some targets by one delay
abbrev pub annotated : ℤ → ℤ → List Target → List Said
annotated least greatest ms = map (λ m. record { target = m; least = least; greatest = greatest }) ms

-- the target of an answer has its place
abbrev pub HasPlaceOf : Ranges → Answer → Type 0
HasPlaceOf r (answer.Of None) = Unit {0}
HasPlaceOf r (answer.Of (Some target)) = HasPlace r target
HasPlaceOf r answer.NoInstance = Unit {0}
HasPlaceOf r answer.NoArc = Unit {0}

-- A delay of an entry is taken in: it is not refused, and the ranges have what it says besides.
pub record IsTakenIn (entry : ℕ) (resolved : Resolved) (least greatest : ℤ) (old new : Ranges) : Type 0 where
  pub unrefused : refusal_of entry resolved ≡ None
  pub ranges : (ss : List Said) → HasRanges old ss → HasRanges new (ss ++ annotated least greatest (targets resolved))
  pub room : IsSameRoom old new
