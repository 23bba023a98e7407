-- What holds of the cells, and of the refusal, that a library's text gives.
use Rattle.std.specs.Prelude.{◌≡◌, ◌⊎◌, ℕ, List, Ok, Err}
use Rattle.mintc_cells.specs.declared.cell.Cell.{Cell}
use Rattle.mintc_liberty.specs.Meaning.{liberty_cells}

-- each text has cells, or the number of its first statement out of form
abbrev pub HaveCellsOrFault : Type 0
HaveCellsOrFault = (text : List ℕ) → ((cells : List (List ℕ × Cell)) × (liberty_cells text ≡ Ok cells))
    ⊎ ((n : ℕ) × (liberty_cells text ≡ Err n))
