-- The table of the corners, with the cycle time that each needs alone.
use Rattle.std.specs.Prelude.{◌≡◌, ℕ, ◌+◌, List, [], ◌∷◌, length, map, slice_index_or, codes, decimal, All}
use Rattle.std.specs.List.{range_with_len}
use Rattle.mintc_timing.specs.Design.{Timing}
use Rattle.mintc_certificate.specs.declared.certificate.Certificate.{Certificate}
use Rattle.mintc_certificate.specs.declared.certificate.Certificate.TheVariants.{Least, Never}
use Rattle.mintc_certificate.specs.Ranges.{IsCertificateInRange}
use Rattle.mintcx_amounts.specs.declared.unit.Unit.{Unit}
use Rattle.mintcx_amounts.specs.Amounts.{amount_text}
use Rattle.mintcx_columns.specs.declared.cells.Column.{Column}
use Rattle.mintcx_columns.specs.Tables.{Grid, table_text}
use Rattle.mintcx_frame.specs.Phases.{left, right}
use Rattle.mintcx_optima.specs.Least.{cycle_of}

-- There is a name and a certificate of its own for each corner.
pub record HasAlone (ts : List Timing) (names : List (List ℕ)) (alone : List Certificate) : Type 0 where
  pub named : length names ≡ length ts
  pub count : length alone ≡ length ts
  pub each : All IsCertificateInRange alone

-- the columns of the table
abbrev pub alone_columns : List Column
alone_columns = right ∷ left ∷ right ∷ []

-- its first row
abbrev pub alone_head : List (List ℕ)
alone_head = codes "corner" ∷ codes "delays" ∷ codes "cycle alone" ∷ []

-- the cycle time that a corner needs alone; where no schedule is right in it, a word
abbrev pub alone_text : Unit → Certificate → List ℕ
alone_text unit (Least s d chain) = amount_text unit (cycle_of s)
alone_text unit (Never chain) = codes "never"

-- the cells of corner c, counted from 0: its number from 1, the name of its delay file, and what it needs alone
abbrev pub alone_cells : Unit → List (List ℕ) → List Certificate → ℕ → List (List ℕ)
alone_cells unit names alone c =
    decimal (c + 1) ∷ slice_index_or names c [] ∷ alone_text unit (slice_index_or alone c (Never [])) ∷ []

-- the table: its first row, and a row for each corner
abbrev pub alone_grid : Unit → List (List ℕ) → List Certificate → Grid
alone_grid unit names alone =
    record {
      columns = alone_columns;
      rows = alone_head ∷ map (alone_cells unit names alone) (range_with_len 0 (length names));
    }

-- its text
abbrev pub corners_table : Unit → List (List ℕ) → List Certificate → List ℕ
corners_table unit names alone = table_text (alone_grid unit names alone)
