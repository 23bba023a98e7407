-- The warnings beside an answer.
use Rattle.std.specs.Prelude.{◌≡◌, ◌⊎◌, ℕ, Bool, true, false, List, [], ◌++◌, All, slice_index_or}
use Rattle.mintc_text.specs.Limits.{large}
use Rattle.mintc_command_answers.specs.declared.command.Command.{Command}
use Rattle.mintc_command_answers.specs.declared.command.Command.TheVariants.{OfDesign}
use Rattle.mintc_command_answers.specs.declared.command.Source.TheVariants as source
use Rattle.mintcx_requests.specs.Requests.{Text}
use Rattle.mintcx_warnings_files.specs.declared.files.CellsForm.{CellsForm}
use Rattle.mintcx_warnings_files.specs.declared.files.CellsForm.TheVariants as form
use Rattle.mintcx_warnings_files.specs.declared.files.File.{File}
use Rattle.mintcx_warnings_files.specs.declared.files.Files.{Files}
use Rattle.mintcx_warnings_files.specs.Written.{AreWarnings}
use Rattle.mintcx_warnings_files.specs.Clamped.{AreOfClamped}
use Rattle.mintcx_run.specs.declared.orders.Order.{Order}

-- a file is the one of a number, with its name and its first bytes
pub record IsFileOf (names fronts : List Text) (number : ℕ) (file : File) : Type 0 where
  pub name : file.name.now ≡ slice_index_or names number []
  pub text : file.text.now ≡ slice_index_or fronts number []

-- the form of a description, which may be made of a library
abbrev pub described : Bool → CellsForm
described true = form.Made
described false = form.Description

-- the command is asked of a design of four files, of which the cells are in this form; those of a library may be
-- described for it
abbrev pub IsOfFour : Command → Bool → CellsForm → Type 0
IsOfFour (OfDesign job source.Files) of_library cells = cells ≡ described of_library
IsOfFour (OfDesign job source.Liberty) of_library cells = cells ≡ form.Library
IsOfFour command of_library cells = ⊥

-- These are the four files of the design of an order, by their names and first bytes.
pub record AreFilesOf (order : Order) (fronts : List Text) (files : Files) : Type 0 where
  pub four : IsOfFour order.call.command order.call.of_library files.form
  pub netlist : IsFileOf order.call.files fronts 0 files.netlist
  pub delays : IsFileOf order.call.files fronts 1 files.delays
  pub cells : IsFileOf order.call.files fronts 2 files.cells
  pub clock : IsFileOf order.call.files fronts 3 files.clock

-- the warnings of the files of an order
abbrev pub AreWarned : Order → List Text → Text → Type 0
AreWarned order fronts text = (files : Files) × AreFilesOf order fronts files × AreWarnings large files text

-- no warnings, or those of the files of an order
abbrev pub IsWarned : Order → List Text → Text → Type 0
IsWarned order fronts text = (text ≡ []) ⊎ AreWarned order fronts text

-- a file is one of an order
abbrev pub IsSomeFileOf : Order → List Text → File → Type 0
IsSomeFileOf order fronts file = (number : ℕ) × IsFileOf order.call.files fronts number file

-- no warnings of delays below 0; or, where 0 is taken for them, those of some files of an order
abbrev pub AreClampsTold : Order → List Text → Text → Type 0
AreClampsTold order fronts text = (text ≡ [])
    ⊎ ((order.call.clamp ≡ true)
    × (files : List File) × All (IsSomeFileOf order fronts) files × AreOfClamped files text)

-- The warnings beside an answer: of delays below 0 for which 0 is taken, and then of what is taken of the files.
pub record AreAllWarned (order : Order) (fronts taken : List Text) (text : Text) : Type 0 where
  pub clamps : Text
  pub others : Text
  pub are_clamps : AreClampsTold order fronts clamps
  pub are_others : IsWarned order taken others
  pub whole : text ≡ clamps ++ others
