-- Sums of paths to bits, from up to eight elements at a time.
use Rattle.std.specs.Prelude.{◌≡◌, ◌<◌, ◌≤◌, ◌+◌, ◌*◌, ℕ, None, List, length, slice_index_or, Bool, false}
use Rattle.mintc_timing.specs.declared.parts.TimingArc.{TimingArc}
use Rattle.mintc_timing.specs.Paths.{output_of, arc_at}
use Rattle.mintc_lanes.specs.Lanes.{lane_at}
use Rattle.mintc_paths_sums.specs.declared.sums.Sums.{Sums}
use Rattle.mintc_paths_sums.specs.declared.sums.TheConstants.{NO_SUMS}
use Rattle.mintc_paths_sums.specs.Sums.{sums_at, IsBounded, IsAlike}
use Rattle.mintc_paths_sums.specs.Placed.{row_of}
use Rattle.mintc_paths.specs.declared.rows.Rows.{Rows}
use Rattle.mintc_paths.specs.declared.rows.ArcSequence.{ArcSequence}
use Rattle.mintc_paths.specs.Among.{IsGreatestAmong, IsLeastAmong}
use Rattle.mintc_paths.specs.Leaving.{AreLeaving}

-- Lane i of each bit has the sums of the paths from element first + i along the first k arcs of the order.
pub record AreSums (arcs : List TimingArc) (order : List ℕ) (k first lanes : ℕ) (sums : List Sums) : Type 0 where
  pub greatest : (bit lane : ℕ) → bit < length sums → lane < lanes →
      IsGreatestAmong arcs order k (output_of (first + lane)) bit (lane_at (sums_at sums bit).greatest lane)
  pub least : (bit lane : ℕ) → bit < length sums → lane < lanes →
      IsLeastAmong arcs order k (output_of (first + lane)) bit (lane_at (sums_at sums bit).least lane)
  pub bounded : (bit : ℕ) → bit < length sums → IsBounded (k * 1000000000) (sums_at sums bit)
  pub alike : (bit : ℕ) → bit < length sums → IsAlike (sums_at sums bit)

-- the same before any arc, with the lanes from this one on absent
pub record AreBegun (arcs : List TimingArc) (order : List ℕ) (first lanes : ℕ) (sums : List Sums) : Type 0 where
  pub sums_so_far : AreSums arcs order 0 first lanes sums
  pub absent : (bit lane : ℕ) → bit < length sums → lanes ≤ lane → lane < 8 →
      (lane_at (sums_at sums bit).greatest lane ≡ None) × (lane_at (sums_at sums bit).least lane ≡ None)

-- The second list leads back from each number of the first.
pub record LeadsBack (n : ℕ) (there back : List ℕ) : Type 0 where
  pub count : length there ≡ n
  pub inside : (x : ℕ) → x < n → row_of there x < n
  pub leads : (x : ℕ) → x < n → row_of back (row_of there x) ≡ x

-- So many bits have a row each, and each row is of one bit.
pub record AreRows (n : ℕ) (rows : Rows) : Type 0 where
  pub of_bits : LeadsBack n rows.of_bits.items rows.bits.items
  pub bits : LeadsBack n rows.bits.items rows.of_bits.items

-- The bit has one of the rows that are given, and those that were given stay with their bits.
pub record IsMet (before : List ℕ) (bit given : ℕ) (after : List ℕ) (given_after : ℕ) : Type 0 where
  pub more : given ≤ given_after
  pub own : row_of after bit < given_after
  pub kept : (other : ℕ) → other < length before → row_of before other < given →
      row_of after other ≡ row_of before other

-- the arc from row to row
abbrev pub moved : List ℕ → TimingArc → TimingArc
moved rows arc = record { from = row_of rows arc.from; to = row_of rows arc.to; min = arc.min; max = arc.max }

-- The list has the arcs that the first k numbers of the order name, one for each, from row to row.
pub record AreAlong (arcs : List TimingArc) (order : List ℕ) (rows : List ℕ) (k : ℕ)
    (along : List TimingArc) : Type 0 where
  pub count : length along ≡ k
  pub each : (i : ℕ) → i < k → arc_at along i ≡ moved rows (arc_at arcs (slice_index_or order i 0))

-- The sequence has rows for so many bits with the arcs that leave them, and all arcs in their order.
pub record IsSequence (n : ℕ) (arcs : List TimingArc) (order : List ℕ) (sequence : ArcSequence) : Type 0 where
  pub rows : AreRows n sequence.rows
  pub along : AreAlong arcs order sequence.rows.of_bits.items (length order) sequence.along.items
  pub leaving : AreLeaving sequence.along.items n sequence.leaving

-- There is a mark for each row, and one that isn't marked as reached has no sums.
pub record AreMarked (sums : List Sums) (reached : List Bool) : Type 0 where
  pub count : length reached ≡ length sums
  pub none : (bit : ℕ) → bit < length sums → slice_index_or reached bit false ≡ false → sums_at sums bit ≡ NO_SUMS
