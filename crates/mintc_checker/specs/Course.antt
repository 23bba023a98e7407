-- The places of bits, and the arcs in their order from place to place.
use Rattle.std.specs.Prelude.{◌≡◌, ◌≢◌, ◌<◌, ◌≤◌, ◌+◌, ◌*◌, ◌⊎◌, ◌↔◌, ℕ, pos, Bool, false, IsTrue, List, [], ◌∷◌, ◌++◌}
use Rattle.std.specs.Prelude.{length, slice_index_or, map, set}
use Rattle.mintc_timing.specs.declared.parts.TimingArc.{TimingArc}
use Rattle.mintc_timing.specs.Design.{Design}
use Rattle.mintc_timing.specs.Limits.{IsDelay}
use Rattle.mintc_timing.specs.Paths.{arc_at, output_of}
use Rattle.mintc_checker.specs.declared.course.Course.{Course}
use Rattle.mintc_checker.specs.declared.course.Places.{Places}
use Rattle.mintc_checker.specs.declared.course.Step.{Step}
use Rattle.mintc_checker.specs.declared.labels.Labels.{Labels}
use Rattle.mintc_checker.specs.Labels.{labels_at}

-- what stands for a step past the end
abbrev pub no_step : Step
no_step = record { from = 0; to = 0; max = pos 0 }

-- the step at a number
abbrev pub step_at : List Step → ℕ → Step
step_at steps k = slice_index_or steps k no_step

-- an arc as a step from bit to bit
abbrev pub bare : TimingArc → Step
bare arc = record { from = arc.from; to = arc.to; max = arc.max }

-- the arcs in their order
abbrev pub moved : List TimingArc → List ℕ → List Step
moved arcs order = map (λ number. bare (arc_at arcs number)) order

-- The step leads from a bit below this number to another, and takes a delay.
pub record IsBetween (bits : ℕ) (step : Step) : Type 0 where
  pub from : step.from < bits
  pub to : step.to < bits
  pub max : IsDelay step.max

-- The steps are between so many bits, and each stands after all into the bit that it leaves.
pub record AreOrdered (bits : ℕ) (arcs : List Step) : Type 0 where
  pub inside : (i : ℕ) → i < length arcs → IsBetween bits (step_at arcs i)
  pub ordered : (i j : ℕ) → i < length arcs → j < length arcs → (step_at arcs i).to ≡ (step_at arcs j).from → i < j

-- the mark of a step
abbrev pub IsMarked : List Bool → ℕ → Type 0
IsMarked lasts i = IsTrue (slice_index_or lasts i false)

-- A step is marked where no later one leaves the same bit, and only there.
pub record AreLasts (arcs : List Step) (lasts : List Bool) : Type 0 where
  pub count : length lasts ≡ length arcs
  pub each : (i : ℕ) → i < length arcs → (IsMarked lasts i ↔
      ((j : ℕ) → i < j → j < length arcs → (step_at arcs j).from ≢ (step_at arcs i).from))

-- One of the first k steps enters the bit.
abbrev pub IsEntered : List Step → ℕ → ℕ → Type 0
IsEntered arcs k bit = (i : ℕ) × (i < k) × ((step_at arcs i).to ≡ bit)

-- Data may have come to the bit: it is one of the first bits, or one of the first k steps enters it.
abbrev pub IsBegun : (ℕ → Type 0) → List Step → ℕ → ℕ → Type 0
IsBegun IsFirst arcs k bit = IsFirst bit ⊎ IsEntered arcs k bit

-- One of the first k steps is the last that leaves the bit.
abbrev pub IsOver : List Step → List Bool → ℕ → ℕ → Type 0
IsOver arcs lasts k bit = (i : ℕ) × (i < k) × IsMarked lasts i × ((step_at arcs i).from ≡ bit)

-- The other bit may have this one's place: the last step that leaves this one comes before all that enter the other.
pub record Precedes (IsFirst : ℕ → Type 0) (arcs : List Step) (lasts : List Bool) (bit other : ℕ) : Type 0 where
  pub last : ℕ
  pub inside : last < length arcs
  pub marked : IsMarked lasts last
  pub leaves : (step_at arcs last).from ≡ bit
  pub before : (j : ℕ) → j < length arcs → (step_at arcs j).to ≡ other → last < j
  pub entered : IsFirst other → ⊥

-- the place of a bit, 0 where it has none
abbrev pub place_at : List ℕ → ℕ → ℕ
place_at places bit = slice_index_or places bit 0

-- the number at a place of a list
abbrev pub number_at : List ℕ → ℕ → ℕ
number_at numbers i = slice_index_or numbers i 0

-- No place is past the last one, no two bits have one place, and none was given back.
pub record AreApart (places : Places) : Type 0 where
  pub below : (bit : ℕ) → place_at places.of_bits.items bit ≤ places.given
  pub apart : (bit other : ℕ) → bit ≢ other → place_at places.of_bits.items bit ≢ 0 →
      place_at places.of_bits.items bit ≢ place_at places.of_bits.items other
  pub none : length places.free.items ≡ 0

-- No place is past the last one, the bits with places are those to which data came by the first k steps, and of two
-- bits with one place one comes before the other.
pub record ArePlaces (IsFirst : ℕ → Type 0) (arcs : List Step) (lasts : List Bool) (k : ℕ)
    (places : Places) : Type 0 where
  pub below : (bit : ℕ) → place_at places.of_bits.items bit ≤ places.given
  pub begun : (bit : ℕ) → place_at places.of_bits.items bit ≢ 0 → IsBegun IsFirst arcs k bit
  pub placed : (bit : ℕ) → IsBegun IsFirst arcs k bit → place_at places.of_bits.items bit ≢ 0
  pub shared : (bit other : ℕ) → bit ≢ other → place_at places.of_bits.items bit ≢ 0 →
      place_at places.of_bits.items bit ≡ place_at places.of_bits.items other →
      Precedes IsFirst arcs lasts bit other ⊎ Precedes IsFirst arcs lasts other bit

-- Each place that was given back is one, stands in the list once, and is no longer needed after the first k steps by
-- the bits that had it.
pub record AreFree (arcs : List Step) (lasts : List Bool) (k : ℕ) (places : Places) : Type 0 where
  pub some : (i : ℕ) → i < length places.free.items → number_at places.free.items i ≢ 0
  pub below : (i : ℕ) → i < length places.free.items → number_at places.free.items i ≤ places.given
  pub apart : (i j : ℕ) → i < j → j < length places.free.items →
      number_at places.free.items i ≢ number_at places.free.items j
  pub over : (i bit : ℕ) → i < length places.free.items →
      place_at places.of_bits.items bit ≡ number_at places.free.items i → IsOver arcs lasts k bit

-- The place is the next one, or the one that was given back last.
abbrev pub IsGiven : Places → Places → ℕ → Type 0
IsGiven old new place =
    ((place ≡ old.given + 1) × (new.given ≡ old.given + 1) × (new.free.items ≡ old.free.items))
    ⊎ ((new.given ≡ old.given) × (old.free.items ≡ new.free.items ++ place ∷ []))

-- The place is the bit's, which gets one if it has none.
abbrev pub IsEntry : Places → Places → ℕ → ℕ → Type 0
IsEntry old new bit place =
    ((place ≢ 0) × (place ≡ place_at old.of_bits.items bit) × (new ≡ old))
    ⊎ ((place_at old.of_bits.items bit ≡ 0) × (new.of_bits.items ≡ set old.of_bits.items bit place)
    × IsGiven old new place)

-- The bit's place is given back if it has one and this is its last step.
abbrev pub IsExit : Places → Places → ℕ → Bool → Type 0
IsExit old new bit is_last =
    (IsTrue is_last × (place_at old.of_bits.items bit ≢ 0)
    × (new.free.items ≡ old.free.items ++ place_at old.of_bits.items bit ∷ []))
    ⊎ ((IsTrue is_last → place_at old.of_bits.items bit ≡ 0) × (new.free.items ≡ old.free.items))

-- The step leads from the place of the arc's beginning to that of its end, which has one, and takes as long.
pub record IsStep (places : List ℕ) (arc step : Step) : Type 0 where
  pub from : step.from ≡ place_at places arc.from
  pub to : step.to ≡ place_at places arc.to
  pub max : step.max ≡ arc.max
  pub ends : step.to ≢ 0

-- The first k steps are the arcs from place to place, and the others are the arcs as they are.
pub record AreSteps (arcs : List Step) (k : ℕ) (places : List ℕ) (steps : List Step) : Type 0 where
  pub count : length steps ≡ length arcs
  pub each : (i : ℕ) → i < k → IsStep places (step_at arcs i) (step_at steps i)
  pub rest : (i : ℕ) → k ≤ i → step_at steps i ≡ step_at arcs i

-- the outputs of the first n elements
abbrev pub IsOutput : ℕ → ℕ → Type 0
IsOutput n bit = (l : ℕ) × (l < n) × (bit ≡ output_of l)

-- The labels of the bit stand at its place after the first k steps: data may have come to it, and it isn't over.
abbrev pub IsHeld : ℕ → List Step → List Bool → ℕ → ℕ → Type 0
IsHeld n arcs lasts k bit = IsBegun (IsOutput n) arcs k bit × (IsOver arcs lasts k bit → ⊥)

-- The outputs of the first n elements have places of their own.
pub record AreOutputPlaces (n : ℕ) (places : Places) : Type 0 where
  pub count : 2 * n ≤ length places.of_bits.items
  pub below : (bit : ℕ) → place_at places.of_bits.items bit ≤ places.given
  pub apart : (i l : ℕ) → i < n → l < n → i ≢ l →
      place_at places.of_bits.items (output_of i) ≢ place_at places.of_bits.items (output_of l)

-- The course has a place for each output and each bit that an arc enters, and a step for each arc of the order.
pub record IsCourse (design : Design) (order : List ℕ) (course : Course) : Type 0 where
  pub count : length course.places.of_bits.items ≡ 2 * length design.elements + length design.inner
  pub lasts : AreLasts (moved design.arcs order) course.lasts.items
  pub places : ArePlaces (IsOutput (length design.elements)) (moved design.arcs order) course.lasts.items
      (length order) course.places
  pub steps : AreSteps (moved design.arcs order) (length order) course.places.of_bits.items course.steps.items

-- the labels at the bits, from those at their places
abbrev pub placed : List ℕ → List Labels → List Labels
placed places rows = map (labels_at rows) places

-- Each bit's place is one of the rows; at place 0 are the labels of the bits that have none.
abbrev pub AreInside : List ℕ → List Labels → Type 0
AreInside places rows = (bit : ℕ) → place_at places bit < length rows
