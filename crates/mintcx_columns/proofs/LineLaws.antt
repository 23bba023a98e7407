-- Lines, their ends and their cells.
use Rattle.std.proofs.Common.{◌≡◌, ◌≢◌, ℕ, zero, suc, ◌+◌, ◌-◌, ◌<◌, ◌≤◌, ◌==◌, max, Bool, true, false, List, [], ◌∷◌, ◌++◌, length, get_or, take, if◌then◌else◌, refl, ap, ◌∙◌, sym, arith, length-append, add-one}
use Rattle.std.specs.Prelude.{slice_index_or}
use Rattle.std.proofs.lemmas.Bool.Decides.{nat_tests}
use Rattle.std.proofs.lemmas.List.{get_or_default}
use Rattle.std.proofs.Math.Seq.{take-suc}
use Rattle.mintcx_columns.specs.declared.cells.Side.{Side}
use Rattle.mintcx_columns.specs.declared.cells.Side.TheVariants.{Left, Right}
use Rattle.mintcx_columns.specs.Cells.{blanks, cell_of, width_of, padded, before, trimmed}
use Rattle.mintcx_columns.specs.declared.cells.Column.{Column}
use Rattle.mintcx_columns.specs.Tables.{no_column, column_at, widths_of, padded_cells}
use Rattle.mintcx_columns.specs.Laws.{LinesKeepCells}

-- ---- the end of a line

blank_end : (line : List ℕ) → trimmed (line ++ 32 ∷ []) ≡ trimmed line
blank_end [] = refl
blank_end (x ∷ line) = ap (before x) (blank_end line)

before_more : (x : ℕ) (line : List ℕ) (b : ℕ) → before x (line ++ b ∷ []) ≡ x ∷ (line ++ b ∷ [])
before_more x [] b = refl
before_more x (y ∷ line) b = refl

kept : (b : ℕ) (test : Bool) → (b == 32) ≡ test → b ≢ 32 → (if test then [] else b ∷ []) ≡ b ∷ []
kept b true e h = absurd (h (grind (arith, nat_tests)))
kept b false e h = refl

other_end : (line : List ℕ) (b : ℕ) → b ≢ 32 → trimmed (line ++ b ∷ []) ≡ line ++ b ∷ []
other_end [] b h = kept b (b == 32) refl h
other_end (x ∷ line) b h = ap (before x) (other_end line b h) ∙ before_more x line b

-- one blank less at the end
end_step : (line : List ℕ) (k : ℕ) → k < length line → get_or line k 0 ≡ 32 → trimmed (take (suc k) line) ≡ trimmed (take k line)
end_step line k h blank = ap trimmed (take-suc line k 0 h ∙ ap (λ v. take k line ++ v ∷ []) blank) ∙ blank_end (take k line)

-- a line that ends in another byte is whole
end_here : (line : List ℕ) (k : ℕ) → k < length line → get_or line k 0 ≢ 32 → trimmed (take (suc k) line) ≡ take (suc k) line
end_here line k h other =
    let e = take-suc line k 0 h in
    ap trimmed e ∙ other_end (take k line) (get_or line k 0) other ∙ sym e

-- ---- what a line loses

lost_blank : (b n : ℕ) (test : Bool) → (b == 32) ≡ test → (m : ℕ) × (b ∷ blanks n ≡ (if test then [] else b ∷ []) ++ blanks m)
lost_blank b n true e = let same : b ≡ 32 = grind (arith, nat_tests) in (suc n, ap (λ v. v ∷ blanks n) same)
lost_blank b n false e = (n, refl)

lost_before : (b : ℕ) (line : List ℕ) (n : ℕ) → (m : ℕ) × (b ∷ (line ++ blanks n) ≡ before b line ++ blanks m)
lost_before b [] n = lost_blank b n (b == 32) refl
lost_before b (c ∷ line) n = (n, refl)

lost : (line : List ℕ) → (n : ℕ) × (line ≡ trimmed line ++ blanks n)
lost [] = (0, refl)
lost (b ∷ line) =
    let rest = lost line in
    let all = lost_before b (trimmed line) rest.0 in
    (all.0, ap (λ v. b ∷ v) rest.1 ∙ all.1)

not_empty : (front : List ℕ) (b : ℕ) → [] ≡ front ++ b ∷ [] → ⊥
not_empty [] b e = cc
not_empty (x ∷ front) b e = cc

ends_byte : (b : ℕ) (test : Bool) (front : List ℕ) → (b == 32) ≡ test → (if test then [] else b ∷ []) ≡ front ++ 32 ∷ [] → ⊥
ends_byte b true front e h = not_empty front 32 h
ends_byte b false [] e h = let same : b ≡ 32 = cc in grind (arith, nat_tests)
ends_byte b false (x ∷ front) e h = let rest : [] ≡ front ++ 32 ∷ [] = cc in not_empty front 32 rest

ends_before : (b : ℕ) (line front : List ℕ) → ((f : List ℕ) → line ≡ f ++ 32 ∷ [] → ⊥) → before b line ≡ front ++ 32 ∷ [] → ⊥
ends_before b [] front ends h = ends_byte b (b == 32) front refl h
ends_before b (c ∷ line) [] ends h = cc
ends_before b (c ∷ line) (x ∷ front) ends h = ends front cc

ends : (line front : List ℕ) → trimmed line ≡ front ++ 32 ∷ [] → ⊥
ends [] front h = not_empty front 32 h
ends (b ∷ line) front h = ends_before b (trimmed line) front (ends line) h

-- ---- widths

at_least : (least column : ℕ) (rows : List (List (List ℕ))) → least ≤ width_of least column rows
at_least least column [] = omega arith
at_least least column (row ∷ rows) = omega (arith, at_least (max least (length (cell_of column row))) column rows)

fits : (least column : ℕ) (rows : List (List (List ℕ))) (r : ℕ) → r < length rows →
    length (cell_of column (slice_index_or rows r [])) ≤ width_of least column rows
fits least column [] r h = absurd (omega arith)
fits least column (row ∷ rows) zero h = omega (arith, at_least (max least (length (cell_of column row))) column rows)
fits least column (row ∷ rows) (suc r) h = fits (max least (length (cell_of column row))) column rows r (omega arith)

length_of_blanks : (n : ℕ) → length (blanks n) ≡ n
length_of_blanks zero = refl
length_of_blanks (suc n) = ap suc (length_of_blanks n)

wide : (side : Side) (width : ℕ) (cell : List ℕ) → length cell ≤ width → length (padded side width cell) ≡ width
wide Left width cell h = omega (arith, length-append cell (blanks (width - length cell)), length_of_blanks (width - length cell))
wide Right width cell h = omega (arith, length-append (blanks (width - length cell)) cell, length_of_blanks (width - length cell))

pub lines_keep_cells_lem : LinesKeepCells
lines_keep_cells_lem = record { lost = lost; ends = ends; fits = fits; wide = wide }

-- ---- steps of loops

-- one blank less at the end
pub end_less : (line : List ℕ) (end : ℕ) → 0 < end → end ≤ length line → get_or line (end - 1) 0 ≡ 32 → trimmed (take (end - 1) line) ≡ trimmed (take end line)
end_less line zero some within blank = absurd (omega arith)
end_less line (suc k) some within blank =
    let back : suc k - 1 ≡ k = omega arith in
    rw back (sym (end_step line k (omega arith) (sym (ap (λ v. get_or line v 0) back) ∙ blank)))

-- no blank at the end
pub end_whole : (line : List ℕ) (end : ℕ) → 0 < end → end ≤ length line → (get_or line (end - 1) 0 ≡ 32 → ⊥) → trimmed (take end line) ≡ take end line
end_whole line zero some within other = absurd (omega arith)
end_whole line (suc k) some within other =
    let back : suc k - 1 ≡ k = omega arith in
    end_here line k (omega arith) (λ blank. other (ap (λ v. get_or line v 0) back ∙ blank))

-- one column more
pub widths_more : (columns : List Column) (rows : List (List (List ℕ))) (n : ℕ) (column : Column) → n < length columns → column ≡ get_or columns n column →
    widths_of columns rows (n + 1) ≡ widths_of columns rows n ++ width_of column.least n rows ∷ []
widths_more columns rows n column h e =
    rw add-one (ap (λ (v : Column). widths_of columns rows n ++ width_of v.least n rows ∷ []) (get_or_default columns n no_column column h ∙ sym e))

pub length_of_widths : (columns : List Column) (rows : List (List (List ℕ))) (n : ℕ) → length (widths_of columns rows n) ≡ n
length_of_widths columns rows zero = refl
length_of_widths columns rows (suc n) =
    omega (arith, length_of_widths columns rows n, length-append (widths_of columns rows n) (width_of (column_at columns n).least n rows ∷ []))

-- one cell more
pub cells_more : (columns : List Column) (widths : List ℕ) (row : List (List ℕ)) (n : ℕ) (column : Column) → n < length columns → column ≡ get_or columns n column →
    padded_cells columns widths row (n + 1) ≡ padded_cells columns widths row n ++ (blanks 2 ++ padded column.side (get_or widths n 0) (cell_of n row))
cells_more columns widths row n column h e =
    rw add-one (ap (λ (v : Column). padded_cells columns widths row n ++ (blanks 2 ++ padded v.side (get_or widths n 0) (cell_of n row))) (get_or_default columns n no_column column h ∙ sym e))
