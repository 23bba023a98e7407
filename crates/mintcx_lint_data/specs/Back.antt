-- Ways back along joins: a join leads from the bit that drives to the bit that is driven.
use Rattle.std.specs.Prelude.{◌≡◌, ◌<◌, ◌≤◌, ◌==◌, ℕ, zero, suc, List, [], ◌∷◌, length}
use Rattle.std.specs.Prelude.{map, slice_index_or, All, if◌then◌else◌}
use Rattle.mintc_flatten_hierarchy.specs.declared.hierarchy.Join.{Join}

-- one step back from a bit: to the beginning of the first join that ends at it, and none where there is no such join
abbrev pub step_back : List Join → ℕ → ℕ
step_back [] b = b
step_back (j ∷ js) b = if j.to == b then j.from else step_back js b

-- so many steps back
abbrev pub steps_back : List Join → ℕ → ℕ → ℕ
steps_back joins zero b = b
steps_back joins (suc n) b = steps_back joins n (step_back joins b)

-- These are the bits to which so many steps back lead from each of so many bits.
pub record AreBack (joins : List Join) (steps bits : ℕ) (found : List ℕ) : Type 0 where
  pub count : length found ≡ bits
  pub within : All (λ b. b < bits) found
  pub each : (b : ℕ) → b < bits → slice_index_or found b 0 ≡ steps_back joins steps b

-- These are the bits that so many bits have their data from: for some number of steps, as great as that of the bits at
-- least, they are those to which so many steps back lead.
abbrev pub AreSources : List Join → ℕ → List ℕ → Type 0
AreSources joins bits found = (steps : ℕ) × (bits ≤ steps) × AreBack joins steps bits found

-- twice as many steps as a list has
abbrev pub twice_as_far : List ℕ → List ℕ
twice_as_far found = map (λ b. slice_index_or found b 0) found
