-- Where the search stands between two turns.
use Rattle.std.specs.Prelude.{◌≡◌, ◌<◌, ◌≤◌, ◌*◌, ◌+◌, ◌-◌, ◌^◌, ℕ, ℤ, pos, ◌-ℤ◌, ◌*ℤ◌, ◌≤ℤ◌, ◌<ℤ◌, List, length, min}
use Rattle.std.specs.Prelude.{nat_lt, if◌then◌else◌}
use Rattle.mintc_text.specs.declared.limits.TheConstants.{MOST_LINK_DELAY, SHORT_NODES}
use Rattle.mintc_text.specs.declared.limits.TheConstants.{MOST_HALVINGS, MOST_TESTS, SHORT_HALVINGS, SHORT_TESTS}
use Rattle.mintc_fraction.specs.Ratio.{over, IsFloor}
use Rattle.mintc_timing.specs.declared.link.Link.{Link}
use Rattle.mintc_timing.specs.Links.{delay_of, cycles_of, link_at}
use Rattle.mintc_constraints.specs.Ordinary.{Constraints}
use Rattle.mintc_constraints.specs.Rooms.{Space}
use Rattle.mintc_ratio.specs.declared.sums.Sums.{Sums}
use Rattle.mintc_ratio.specs.declared.turns.TestResult.{TestResult}
use Rattle.mintc_ratio.specs.declared.turns.TestResult.TheVariants.{Found, Held, Free}
use Rattle.mintc_ratio.specs.declared.advancing.SearchState.{SearchState}
use Rattle.mintc_ratio.specs.declared.advancing.SearchState.TheVariants.{Over, On}
use Rattle.mintc_ratio.specs.Chains.{links_at, NamesChain}
use Rattle.mintc_ratio.specs.Searched.{HasSearched}
use Rattle.mintc_ratio.specs.Sums.{HasSums, IsSmall}
use Rattle.mintc_ratio.specs.Tested.{NoneForbids}

-- The room holds a chain with these sums, and with a cycle.
pub record IsHeld (list : Constraints) (room : Space) (sums : Sums) : Type 0 where
  pub chain : NamesChain list.links room.chain
  pub has_sums : HasSums (links_at list.links room.chain) sums
  pub small : IsSmall list.nodes sums
  pub turns : 1 ≤ sums.cycles
  pub low : pos 0 ≤ℤ sums.delay

-- the grid on which cycle times are tested: so many parts of a femtosecond
abbrev pub grid_of : ℕ → ℤ
grid_of nodes = pos (2 * nodes * nodes)

-- a cycle time on the grid that no chain with a cycle exceeds
abbrev pub top_of : ℕ → ℤ
top_of nodes = pos (MOST_LINK_DELAY * nodes * nodes * nodes)

-- how often a search may halve what lies below the top, and how many tests it takes at most, by the number of nodes
abbrev pub most_halvings : ℕ → ℕ
most_halvings nodes = if nat_lt SHORT_NODES nodes then MOST_HALVINGS else SHORT_HALVINGS

abbrev pub most_tests : ℕ → ℕ
most_tests nodes = if nat_lt SHORT_NODES nodes then MOST_TESTS else SHORT_TESTS

-- No chain with a cycle forbids the cycle time of so many parts of the grid.
abbrev pub IsHigh : Constraints → ℤ → Type 0
IsHigh list high = (chain : List ℕ) → NamesChain list.links chain → pos 1 ≤ℤ cycles_of (links_at list.links chain) →
    (delay_of (links_at list.links chain) *ℤ grid_of list.nodes) ≤ℤ (cycles_of (links_at list.links chain) *ℤ high)

-- the greatest part of the grid that the ratio of the sums isn't below
abbrev pub IsLow : ℕ → Sums → ℤ → Type 0
IsLow nodes sums low = IsFloor (over sums.delay (pos sums.cycles)) (grid_of nodes) low

-- the ratio of the second sums is greater
abbrev pub IsSteeper : Sums → Sums → Type 0
IsSteeper old new = (old.delay *ℤ pos new.cycles) <ℤ (new.delay *ℤ pos old.cycles)

-- A chain as a turn: one that forbids every cycle time, or one with a cycle.
abbrev pub IsOfChain : Constraints → Space → TestResult → Type 0
IsOfChain list room (Found outcome) = HasSearched list room outcome
IsOfChain list room (Held sums) = IsHeld list room sums
IsOfChain list room Free = ⊥

-- What a test of the ratio that is held leaves: an outcome, or a chain with a greater ratio.
abbrev pub IsJump : Constraints → Sums → Space → TestResult → Type 0
IsJump list held room (Found outcome) = HasSearched list room outcome
IsJump list held room (Held sums) = IsHeld list room sums × IsSteeper held sums
IsJump list held room Free = ⊥

-- What a test at a part of the grid leaves: a chain that forbids every cycle time, a chain with a greater ratio, or the
-- chain that was held, and no chain forbids that cycle time.
abbrev pub IsHalving : Constraints → ℤ → Space → Space → TestResult → Type 0
IsHalving list middle old new (Found outcome) = HasSearched list new outcome
IsHalving list middle old new (Held sums) = IsHeld list new sums
    × ((middle *ℤ pos sums.cycles) <ℤ (sums.delay *ℤ grid_of list.nodes))
IsHalving list middle old new Free = NoneForbids list.links (over middle (grid_of list.nodes)) × (new.chain ≡ old.chain)

-- The link of this number has no delay, and leads from a to b with so many cycles.
pub record IsPlainAt (links : List Link) (a b laps number : ℕ) : Type 0 where
  pub exists : number < length links
  pub from : (link_at links number).from ≡ a
  pub to : (link_at links number).to ≡ b
  pub delay : (link_at links number).delay ≡ pos 0
  pub cycles : (link_at links number).cycles ≡ laps

-- What a search keeps that began at this number of steps, which the counter could say as `begun`: the room holds a
-- chain with these sums, no chain with a cycle forbids the cycle time of `high` parts of the grid, and after so
-- many halvings between them one test is left, for which there are steps enough.
pub record IsClimbing (list : Constraints) (start begun : ℕ) (room : Space) (held : Sums) (high : ℤ)
    (halvings now : ℕ) : Type 0 where
  pub is_held : IsHeld list room held
  pub is_high : IsHigh list high
  pub inside : high ≤ℤ top_of list.nodes
  pub said : begun ≡ min start (2 ^ 64 - 1)
  pub later : start ≤ now
  pub near : (low : ℤ) → IsLow list.nodes held low → (high -ℤ low) ≤ℤ pos (2 ^ halvings)
  pub few : now + (halvings + 1) * (list.nodes + 1) ≤ start + most_tests list.nodes * (list.nodes + 1)

-- What a turn of such a search leaves: an outcome, or the search goes on from other sums and another high cycle time.
abbrev pub IsAdvanced : Constraints → ℕ → ℕ → Space → ℕ → SearchState → Type 0
IsAdvanced list start begun room now (Over outcome) = HasSearched list room outcome
    × (now ≤ start + most_tests list.nodes * (list.nodes + 1))
IsAdvanced list start begun room now (On held high) = (halvings : ℕ)
    × IsClimbing list start begun room held high halvings now
