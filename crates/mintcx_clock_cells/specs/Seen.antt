-- What only the proofs need of cells and gates.
use Rattle.std.specs.Prelude.{◌≡◌, ℕ, List, Err}
use Rattle.mintc_text.specs.declared.refusals.Refusal.TheVariants.{Syntax}
use Rattle.mintc_text.specs.declared.refusals.Role.TheVariants as role
use Rattle.mintc_cells.specs.declared.cell.Cell.{Cell}
use Rattle.mintc_cells.specs.declared.cell.Cell.TheVariants.{Latch, Flop}
use Rattle.mintc_liberty.specs.Meaning.{liberty_cells}
use Rattle.mintcx_clock_cells.specs.Clocks.{Senses, Cells, IsUnknown, IsUnusable}
use Rattle.mintcx_clock_cells.specs.declared.unfit.Unfit.{Unfit}
use Rattle.mintcx_clock_cells.specs.declared.unfit.Unfit.TheVariants as unfit

-- a cell is a latch
abbrev pub IsLatch : Cell → Type 0
IsLatch (Latch pin_d pin_g high outputs ignored setup hold has_hold dq_min dq_max cq_min cq_max has_cq width) = Unit {0}
IsLatch cell = ⊥

-- a cell is a flop
abbrev pub IsFlop : Cell → Type 0
IsFlop (Flop pin_d pin_clock rising outputs ignored setup hold has_hold cq_min cq_max width) = Unit {0}
IsFlop cell = ⊥

-- why a name, which stands at this place of a list, isn't that of a cell that can be one of the clock
abbrev pub IsUnfitName : Senses → Cells → List ℕ → ℕ → Unfit → Type 0
IsUnfitName senses cells name at (unfit.Unknown there) = (there ≡ at) × IsUnknown cells name
IsUnfitName senses cells name at (unfit.Unusable there) = (there ≡ at) × IsUnusable senses cells name
IsUnfitName senses cells name at unfit.OutOfMemory = Unit {0}
IsUnfitName senses cells name at (unfit.Refused refusal) = ⊥

-- a library's text is refused, or memory was wanting
abbrev pub IsRefused : List ℕ → Unfit → Type 0
IsRefused text (unfit.Refused refusal) =
    (n : ℕ) × (liberty_cells text ≡ Err n) × (refusal ≡ Syntax role.Cells n)
IsRefused text unfit.OutOfMemory = Unit {0}
IsRefused text why = ⊥
