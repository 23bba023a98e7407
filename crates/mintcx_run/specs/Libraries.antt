-- The cells of a library in a description's place.
use Rattle.std.specs.Prelude.{◌≡◌, ◌<◌, ◌≤◌, ◌⊎◌, ℕ, List, length, slice_set, true, false, Option, Some, None}
use Rattle.mintc_text.specs.declared.limits.TheConstants.{MOST_BYTES}
use Rattle.mintc_text.specs.declared.refusals.Refusal.TheVariants as refusal
use Rattle.mintc_text.specs.declared.refusals.Role.TheVariants as role
use Rattle.mintc_cells.specs.declared.cell.Cell.{Cell}
use Rattle.mintc_cells.specs.CellsOf.{AreCells}
use Rattle.mintc_command_answers.specs.Sources.{file_at}
use Rattle.mintcx_clock_cells.specs.Clocks.{HasClockCells, IsUnfit}
use Rattle.mintcx_clock_cells.specs.declared.unfit.Unfit.{Unfit}
use Rattle.mintcx_clock_cells.specs.declared.unfit.Unfit.TheVariants as unfit
use Rattle.mintcx_requests.specs.Requests.{Text}
use Rattle.mintcx_translation.specs.Calls.{cells_place}
use Rattle.mintcx_run.specs.declared.orders.Order.{Order}

-- The text is a description of the very cells of a library's text, but for gates that are cells of the clock in it.
abbrev pub IsDescriptionOf : Text → List Text → Text → Type 0
IsDescriptionOf library gates text =
    (cells : List (Text × Cell)) × HasClockCells library gates cells × AreCells text cells

-- Why there is none: the library is too long, or refused, or a gate can't be a cell of the clock.
abbrev pub IsUnfitLibrary : Text → List Text → Unfit → Type 0
IsUnfitLibrary library gates why = ((MOST_BYTES < length library) × (why ≡ unfit.Refused (refusal.TooLong role.Cells)))
    ⊎ ((length library ≤ MOST_BYTES) × IsUnfit library gates why)
    ⊎ (why ≡ unfit.OutOfMemory)

-- The file of a number is a library, and a description of its cells with these gates is put in its place.
abbrev pub AreDescribed : ℕ → List Text → List Text → List Text → Type 0
AreDescribed at gates taken given =
    (text : Text) × IsDescriptionOf (file_at taken at) gates text × (given ≡ slice_set taken at text)

-- What an order's command is asked of: what is taken of its files, with the cells of a library by their description.
abbrev pub AreGiven : Order → List Text → List Text → Type 0
AreGiven order taken given = ((order.call.of_library ≡ false) × (given ≡ taken))
    ⊎ ((order.call.of_library ≡ true) × AreDescribed (cells_place order.call.command) order.call.gates taken given)

-- the texts with a library back in the place of this number, where there is one
abbrev pub restored : List Text → ℕ → Option Text → List Text
restored given at (Some library) = slice_set given at library
restored given at None = given

-- Why a library has no description for an order.
abbrev pub IsUndescribed : Order → List Text → Unfit → Type 0
IsUndescribed order taken why = (order.call.of_library ≡ true)
    × IsUnfitLibrary (file_at taken (cells_place order.call.command)) order.call.gates why
