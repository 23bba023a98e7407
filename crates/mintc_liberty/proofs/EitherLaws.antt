-- Each text has cells, or the number of its first statement out of form.
use Rattle.std.proofs.Common.{◌≡◌, ℕ, List, Result, Ok, Err, refl, ◌⊎◌, inl, inr}
use Rattle.mintc_cells.specs.declared.cell.Cell.{Cell}
use Rattle.mintc_liberty.specs.Meaning.{liberty_cells}
use Rattle.mintc_liberty.specs.Laws.{HaveCellsOrFault}

by : (text : List ℕ) (read : Result (List (List ℕ × Cell)) ℕ) → liberty_cells text ≡ read →
    ((cells : List (List ℕ × Cell)) × (liberty_cells text ≡ Ok cells)) ⊎ ((n : ℕ) × (liberty_cells text ≡ Err n))
by text (Ok cells) is = inl (cells, is)
by text (Err n) is = inr (n, is)

pub have_cells_or_fault : HaveCellsOrFault
have_cells_or_fault text = by text (liberty_cells text) refl
