-- The cells of a library, with gates for the clock.
use Rattle.std.specs.Prelude.{◌≡◌, ◌<◌, ℕ, Bool, true, false, if◌then◌else◌, List, [], ◌∷◌, length}
use Rattle.std.specs.Prelude.{Option, Some, None, IsSome, unwrap_or, Ok, Err, slice_index_or, All}
use Rattle.std.specs.List.{AllWithin}
use Rattle.mintc_text.specs.declared.refusals.Refusal.{Refusal}
use Rattle.mintc_text.specs.declared.refusals.Refusal.TheVariants.{Syntax}
use Rattle.mintc_text.specs.declared.refusals.Role.TheVariants as role
use Rattle.mintc_cells.specs.declared.cell.Cell.{Cell}
use Rattle.mintc_cells.specs.declared.cell.Cell.TheVariants.{Gate, Latch, Flop, Clock}
use Rattle.mintc_cells.specs.Entries.{names_of, name_at, cell_at, number_of}
use Rattle.mintc_liberty_cell.specs.Expressions.{is_among}
use Rattle.mintc_liberty.specs.Meaning.{liberty_cells}
use Rattle.mintc_senses_expressions.specs.declared.transitions.Transitions.{Transitions}
use Rattle.mintc_senses.specs.Senses.{library_inside, senses_of, sense_at}
use Rattle.mintcx_clock_cells.specs.declared.unfit.Unfit.{Unfit}
use Rattle.mintcx_clock_cells.specs.declared.unfit.Unfit.TheVariants as unfit

-- the name that stands alone in a list
abbrev pub alone : List (List ℕ) → Option (List ℕ)
alone (name ∷ []) = Some name
alone names = None

-- whether edges are turned, where all or none are: from a rise to a rise, to a fall, from a fall to a rise, to a fall
abbrev pub turns : Bool → Bool → Bool → Bool → Option Bool
turns true false false true = Some false
turns false true true false = Some true
turns _ _ _ _ = None

-- whether a sense turns edges, where it turns all or none
abbrev pub inverts : Transitions → Option Bool
inverts sense = turns sense.rise_to_rise sense.rise_to_fall sense.fall_to_rise sense.fall_to_fall

-- the cell of the clock from an input to an output
abbrev pub clock_between : Option Bool → Option (List ℕ) → Option (List ℕ) → Option Cell
clock_between (Some invert) (Some input) (Some output) = Some (Clock input output invert [])
clock_between _ _ _ = None

-- The cell of the clock that a cell can be, by the sense of its input and output: a gate of one input and one output
-- whose output always follows its input, or always is its opposite. A cell of the clock is one.
abbrev pub clock_with : Transitions → Cell → Option Cell
clock_with sense (Gate inputs outputs min max) = clock_between (inverts sense) (alone inputs) (alone outputs)
clock_with sense (Clock input output invert ignored) = Some (Clock input output invert ignored)
clock_with sense cell = None

-- the senses of cells, and the cells
abbrev pub Senses : Type 0
Senses = List (List (List Transitions))

abbrev pub Cells : Type 0
Cells = List (List ℕ × Cell)

-- the cell of the clock that the cell of a number can be
abbrev pub clock_at : Senses → Cells → ℕ → Option Cell
clock_at senses cells k = clock_with (sense_at senses k 0 0) (cell_at cells k)

-- the cell of a number, or the cell of the clock that it can be, where it is one of these gates
abbrev pub cell_for : List (List ℕ) → Senses → Cells → ℕ → Cell
cell_for gates senses cells k =
    if is_among gates (name_at cells k) then unwrap_or (clock_at senses cells k) (cell_at cells k)
    else cell_at cells k

-- a name is that of a cell that can be one of the clock
abbrev pub IsFit : Senses → Cells → List ℕ → Type 0
IsFit senses cells name = (k : ℕ) × (number_of cells name ≡ Some k) × IsSome (clock_at senses cells k)

-- a name is no cell's
abbrev pub IsUnknown : Cells → List ℕ → Type 0
IsUnknown cells name = number_of cells name ≡ None

-- a name is that of a cell that can't be one of the clock
abbrev pub IsUnusable : Senses → Cells → List ℕ → Type 0
IsUnusable senses cells name = (k : ℕ) × (number_of cells name ≡ Some k) × (clock_at senses cells k ≡ None)

-- the senses of a library's cells
abbrev pub senses_in : List ℕ → Cells → Senses
senses_in text cells = senses_of (library_inside text) cells

-- Cells are those of a library, but for gates that are cells of the clock in them: each of these is fit for that, the
-- names are the library's, and so is each other cell.
pub record HasClockCells (text : List ℕ) (gates : List (List ℕ)) (cells : Cells) : Type 0 where
  pub own : Cells
  pub library : liberty_cells text ≡ Ok own
  pub fit : All (IsFit (senses_in text own) own) gates
  pub names : names_of cells ≡ names_of own
  pub each : (k : ℕ) → k < length own → cell_at cells k ≡ cell_for gates (senses_in text own) own k

-- The gate of a number in the list is the first that isn't fit, for this reason.
pub record IsFirstUnfit (senses : Senses) (cells : Cells) (gates : List (List ℕ)) (at : ℕ) (Why : List ℕ → Type 0)
    : Type 0 where
  pub within : at < length gates
  pub before : AllWithin (IsFit senses cells) gates 0 at
  pub this : Why (slice_index_or gates at [])

-- why gates aren't fit for the clock, among cells with these senses
abbrev pub IsUnfitAmong : Senses → Cells → List (List ℕ) → Unfit → Type 0
IsUnfitAmong senses cells gates (unfit.Unknown at) = IsFirstUnfit senses cells gates at (IsUnknown cells)
IsUnfitAmong senses cells gates (unfit.Unusable at) = IsFirstUnfit senses cells gates at (IsUnusable senses cells)
IsUnfitAmong senses cells gates unfit.OutOfMemory = Unit {0}
IsUnfitAmong senses cells gates (unfit.Refused refusal) = ⊥

-- Why a library with gates for the clock isn't given: its text is refused, the first gate that isn't fit, or memory was
-- wanting.
abbrev pub IsUnfit : List ℕ → List (List ℕ) → Unfit → Type 0
IsUnfit text gates (unfit.Refused refusal) =
    (n : ℕ) × (liberty_cells text ≡ Err n) × (refusal ≡ Syntax role.Cells n)
IsUnfit text gates unfit.OutOfMemory = Unit {0}
IsUnfit text gates why =
    (own : Cells) × (liberty_cells text ≡ Ok own) × IsUnfitAmong (senses_in text own) own gates why
