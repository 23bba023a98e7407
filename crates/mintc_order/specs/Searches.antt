-- What holds while a search from bit to bit gives out each bit after all bits that its arcs enter. `marks` has 0
-- for a bit that isn't met, 1 for one that is given out, and for one of the path its place there, counted from 2.
use Rattle.std.specs.Prelude.{◌≡◌, ◌≢◌, ◌<◌, ◌≤◌, ◌+◌, ◌*◌, ℕ, List, length, slice_index, Contains}
use Rattle.mintc_order.specs.declared.outgoing.OutgoingArcs.{OutgoingArcs}
use Rattle.mintc_order.specs.declared.search.Search.{Search}
use Rattle.mintc_order.specs.OutgoingArcs.{IsPlace, AreParts}

-- The bits that the bit's arcs enter from one place to before another are given out.
abbrev pub ArePassed : List ℕ → List ℕ → ℕ → ℕ → Type 0
ArePassed ends marks first next = (k : ℕ) → first ≤ k → k < next → slice_index marks (slice_index ends k) ≡ 1

-- The bit stands at place i of the path, and its arcs are passed up to the next.
pub record IsOpen (bits : ℕ) (starts ends marks : List ℕ) (i bit next : ℕ) : Type 0 where
  pub within : bit < bits
  pub mark : slice_index marks bit ≡ i + 2
  pub first : slice_index starts bit ≤ next
  pub last : next ≤ slice_index starts (bit + 1)
  pub passed : ArePassed ends marks (slice_index starts bit) next

-- The path's bits are open, and the next arc of each enters the bit after it.
pub record IsSearchPath (bits : ℕ) (starts ends marks path nexts : List ℕ) : Type 0 where
  pub each_next : length nexts ≡ length path
  pub each_bit : (i : ℕ) → i < length path → IsOpen bits starts ends marks i (slice_index path i) (slice_index nexts i)
  pub joined : (i : ℕ) → i + 1 < length path →
      (slice_index nexts i < slice_index starts (slice_index path i + 1))
      × (slice_index ends (slice_index nexts i) ≡ slice_index path (i + 1))
  pub placed : (bit i : ℕ) → slice_index marks bit ≡ i + 2 → (i < length path) × (slice_index path i ≡ bit)

-- Bits in an order of which each stands once, after all that its arcs enter.
pub record AreAfterEnds (bits : ℕ) (starts ends given : List ℕ) : Type 0 where
  pub within : (i : ℕ) → i < length given → slice_index given i < bits
  pub once : (i j : ℕ) → i < j → j < length given → slice_index given i ≢ slice_index given j
  pub after : (i k : ℕ) → i < length given → IsPlace starts (slice_index given i) k → (j : ℕ) × (j < i)
      × (slice_index given j ≡ slice_index ends k)

-- The list has each bit that is given out.
pub record AreGiven (bits : ℕ) (starts ends marks given : List ℕ) : Type 0 where
  pub ordered : AreAfterEnds bits starts ends given
  pub out : (i : ℕ) → i < length given → slice_index marks (slice_index given i) ≡ 1
  pub whole : (bit : ℕ) → slice_index marks bit ≡ 1 → Contains given bit

-- A search between so many bits, at any moment.
pub record IsSearch (bits : ℕ) (starts ends marks path nexts given : List ℕ) : Type 0 where
  pub each_mark : length marks ≡ bits
  pub is_path : IsSearchPath bits starts ends marks path nexts
  pub are_given : AreGiven bits starts ends marks given

-- A search between so many bits along these arcs, at any moment.
abbrev pub IsSearching : ℕ → OutgoingArcs → Search → Type 0
IsSearching bits ranges search =
    AreParts bits ranges.starts.items ranges.numbers.items ranges.ends.items
    × IsSearch bits ranges.starts.items ranges.ends.items search.marks.items search.path.items search.nexts.items
    search.given.items

-- Where the path has a bit, the next arc of its last one enters the bit.
abbrev pub EndsAt : List ℕ → List ℕ → List ℕ → List ℕ → ℕ → Type 0
EndsAt starts ends path nexts bit = (i : ℕ) → length path ≡ i + 1 →
    (slice_index nexts i < slice_index starts (slice_index path i + 1)) × (slice_index ends (slice_index nexts i) ≡ bit)

-- How many steps a search has taken: one for each bit of the path, two for each that is given out.
abbrev pub steps_of : Search → ℕ
steps_of search = length search.path.items + 2 * length search.given.items

-- The list has the arcs at the next places of the path's bits from one place to before another.
pub record IsClosing (numbers nexts : List ℕ) (first stop : ℕ) (closed : List ℕ) : Type 0 where
  pub count : first + length closed ≡ stop
  pub each : (i : ℕ) → i < length closed → slice_index closed i ≡ slice_index numbers (slice_index nexts (first + i))
