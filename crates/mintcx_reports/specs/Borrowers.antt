-- The latches that borrow.
use Rattle.std.specs.Prelude.{◌≡◌, ◌==◌, ◌<◌, ℕ, zero, suc, ℤ, pos, neg_ℤ, Bool, true, false, not, ◌&&◌, int_lt}
use Rattle.std.specs.Prelude.{List, [], ◌∷◌, ◌++◌, codes, decimal, filter, length, map, slice_index_or, take}
use Rattle.std.specs.List.{list_any, range_with_len}
use Rattle.std.specs.List.Sorted.{IsPermutation, IsSorted}
use Rattle.std.specs.Ordering.{nat_cmp, int_cmp, ordering_then}
use Rattle.std.specs.declared.cmp.Ordering.{Ordering}
use Rattle.mintc_fraction.specs.Ratio.{over}
use Rattle.mintc_timing.specs.declared.clocking.Schedule.{Schedule}
use Rattle.mintc_timing.specs.declared.parts.Pair.{Pair}
use Rattle.mintc_timing.specs.Departures.{departure}
use Rattle.mintc_timing.specs.Design.{Design, Timing, element_at, element_count}
use Rattle.mintcx_amounts.specs.declared.unit.Unit.{Unit}
use Rattle.mintcx_amounts.specs.Amounts.{amount_text}
use Rattle.mintcx_columns.specs.declared.cells.Column.{Column}
use Rattle.mintcx_columns.specs.Tables.{Grid, table_text}
use Rattle.mintcx_frame.specs.Names.{element_name, kind_on_phase}
use Rattle.mintcx_frame.specs.Phases.{left, right}
use Rattle.mintcx_frame.specs.Rows.{more_text, shown_rows}
use Rattle.mintcx_frame.specs.declared.view.View.{View}
use Rattle.mintcx_manners.specs.declared.manners.Limit.{Limit}

-- whether some pair leads to an element
abbrev pub is_fed : List Pair → ℕ → Bool
is_fed pairs l = list_any (λ (pair : Pair). pair.to == l) pairs

-- whether some pair leads on from an element
abbrev pub feeds : List Pair → ℕ → Bool
feeds pairs l = list_any (λ (pair : Pair). pair.from == l) pairs

-- Whether an element may borrow: a latch to which some pair leads, and from which some pair leads on. A listed port has
-- pairs on one side alone.
abbrev pub may_borrow : Timing → ℕ → Bool
may_borrow t l = not (element_at t.flat l).flop && is_fed t.pairs l && feeds t.pairs l

-- the latches that may borrow, by their numbers
abbrev pub latches_of : Timing → List ℕ
latches_of t = filter (may_borrow t) (range_with_len 0 (element_count t.flat))

-- whether the data of an element departs after its phase starts
abbrev pub is_late : List ℤ → ℕ → Bool
is_late d l = int_lt (pos 0) (departure d l)

-- a latch's place: less than 0 by what it borrows, and its number
abbrev pub place_of : List ℤ → ℕ → ℤ × ℕ
place_of d l = (neg_ℤ (departure d l), l)

-- the places of those latches that borrow
abbrev pub places_of : List ℤ → List ℕ → List (ℤ × ℕ)
places_of d latches = map (place_of d) (filter (is_late d) latches)

-- which of two places comes first: that of the latch that borrows more, then that of the smaller number
abbrev pub place_cmp : ℤ × ℕ → ℤ × ℕ → Ordering
place_cmp x y = ordering_then (int_cmp x.0 y.0) (nat_cmp x.1 y.1)

-- The places are those of the latches that borrow, most first.
pub record AreBorrowers (t : Timing) (d : List ℤ) (places : List (ℤ × ℕ)) : Type 0 where
  pub permutation : IsPermutation (places_of d (latches_of t)) places
  pub sorted : IsSorted place_cmp places

-- the line that says how many latches of how many borrow
abbrev pub latch_count_text : ℕ → ℕ → List ℕ
latch_count_text zero all = codes "no latch borrows" ++ 10 ∷ []
latch_count_text (suc zero) all = codes "1 latch of " ++ decimal all ++ codes " borrows:" ++ 10 ∷ 10 ∷ []
latch_count_text (suc (suc n)) all =
    decimal (suc (suc n)) ++ codes " latches of " ++ decimal all ++ codes " borrow:" ++ 10 ∷ 10 ∷ []

-- with edges apart, where each latch has two: the line that says at how many edges of how many a latch borrows
abbrev pub edge_count_text : ℕ → ℕ → List ℕ
edge_count_text zero all = codes "no latch borrows" ++ 10 ∷ []
edge_count_text (suc zero) all = codes "a latch borrows at 1 edge of " ++ decimal all ++ codes ":" ++ 10 ∷ 10 ∷ []
edge_count_text (suc (suc n)) all = codes "latches borrow at " ++ decimal (suc (suc n)) ++ codes " edges of "
    ++ decimal all ++ codes ":" ++ 10 ∷ 10 ∷ []

-- the one or the other
abbrev pub count_text : Bool → ℕ → ℕ → List ℕ
count_text true count all = edge_count_text count all
count_text false count all = latch_count_text count all

-- the columns of their table
abbrev pub borrow_columns : List Column
borrow_columns = right ∷ left ∷ left ∷ []

-- its first row
abbrev pub borrow_head : List (List ℕ)
borrow_head = codes "borrows" ∷ codes "element" ∷ codes "on" ∷ []

-- the cells of a latch: what it borrows, its name, and its kind and phase
abbrev pub borrow_cells : Design → Schedule → List ℤ → Unit → ℕ → List (List ℕ)
borrow_cells design s d unit l =
    amount_text unit (over (departure d l) s.den) ∷ element_name design l ∷ kind_on_phase design l ∷ []

abbrev pub borrow_grid : Design → Schedule → List ℤ → Unit → List (ℤ × ℕ) → Grid
borrow_grid design s d unit places =
    record {
      columns = borrow_columns;
      rows = borrow_head ∷ map (λ (place : ℤ × ℕ). borrow_cells design s d unit place.1) places;
    }

-- the table, with as many latches as a limit allows, and the line for those that it leaves out; nothing of none
abbrev pub listed_text : Design → Schedule → List ℤ → Unit → Limit → List (ℤ × ℕ) → List ℕ
listed_text design s d unit limit [] = []
listed_text design s d unit limit (place ∷ places) =
    table_text (borrow_grid design s d unit (take (shown_rows limit (length (place ∷ places))) (place ∷ places)))
    ++ more_text limit (length (place ∷ places))

-- the latches that borrow, after the line that counts them and all that may
abbrev pub borrowers_text : Design → Schedule → List ℤ → Unit → View → ℕ → List (ℤ × ℕ) → List ℕ
borrowers_text design s d unit view all places =
    count_text view.apart (length places) all ++ listed_text design s d unit view.limit places

-- There is a flag for each of so many elements, which says whether a test holds of it.
pub record AreFlags (test : ℕ → Bool) (many : ℕ) (flags : List Bool) : Type 0 where
  pub count : length flags ≡ many
  pub each : (l : ℕ) → l < many → slice_index_or flags l false ≡ test l
