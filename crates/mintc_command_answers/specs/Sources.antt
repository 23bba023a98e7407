-- What designs are read from: the timing that files give, or why they give none.
use Rattle.std.specs.Prelude.{◌<◌, ◌≤◌, ◌≡◌, ◌⊎◌, ℕ, List, [], ◌∷◌, length, slice_index_or, All}
use Rattle.mintc_text.specs.declared.limits.Most.{Most}
use Rattle.mintc_text.specs.declared.refusals.Refusal.{Refusal}
use Rattle.mintc_text.specs.declared.refusals.Refusal.TheVariants as refusal
use Rattle.mintc_text.specs.declared.refusals.Role.{Role}
use Rattle.mintc_timing.specs.Design.{Design, Timing}
use Rattle.mintc_timing.specs.Accepted.{IsAccepted}
use Rattle.mintc_timing.specs.Limits.{IsDesign, IsWithinLimits}
use Rattle.mintc_timing.specs.Order.{IsOrder}
use Rattle.mintc_timing.specs.Paths.{ArePairs}
use Rattle.mintc_timing_text.specs.TableText.{IsTableText, IsTableRefusal}
use Rattle.mintc_build.specs.Designs.{IsDesignRefusal}
use Rattle.mintc_build.specs.FilesDesign.{IsFilesDesign, IsFilesRefusal, IsLibertyDesign, IsLibertyRefusal}
use Rattle.mintc_command_answers.specs.Commands.{source_roles}
use Rattle.mintc_command_answers.specs.declared.command.Source.{Source}
use Rattle.mintc_command_answers.specs.declared.command.Source.TheVariants.{Table, Files, Liberty}

-- the bytes of the file of a number, counted from 0
abbrev pub file_at : List (List ℕ) → ℕ → List ℕ
file_at files n = slice_index_or files n []

-- the file that stands after those of the design
abbrev pub own_file : Source → List (List ℕ) → List ℕ
own_file source files = file_at files (length (source_roles source))

-- No file is too long.
abbrev pub AreShort : Most → List (List ℕ) → Type 0
AreShort most files = All (λ bytes. length bytes ≤ most.bytes) files

-- The refusal of the first file that is too long, in the order of the words.
abbrev pub IsLengthRefusal : Most → List Role → List (List ℕ) → Refusal → Type 0
IsLengthRefusal most [] files refused = ⊥
IsLengthRefusal most (text ∷ roles) [] refused = ⊥
IsLengthRefusal most (text ∷ roles) (bytes ∷ files) refused =
    ((most.bytes < length bytes) × (refused ≡ refusal.TooLong text))
    ⊎ ((length bytes ≤ most.bytes) × IsLengthRefusal most roles files refused)

-- The files of a design, which come first, stand for it: a table, or a netlist, delays, cells or a Liberty library,
-- and a clock.
abbrev pub Describes : Most → Source → List (List ℕ) → Design → Type 0
Describes most Table files design = IsTableText (file_at files 0) design
Describes most Files files design = IsFilesDesign most (file_at files 0) (file_at files 1) (file_at files 2)
    (file_at files 3) design
Describes most Liberty files design = IsLibertyDesign most (file_at files 0) (file_at files 1) (file_at files 2)
    (file_at files 3) design

-- They stand for no design within the limits, and this is their first refusal.
abbrev pub HasNoDesign : Most → Source → List (List ℕ) → Refusal → Type 0
HasNoDesign most Table files refused = IsTableRefusal most (file_at files 0) refused
HasNoDesign most Files files refused = IsFilesRefusal most (file_at files 0) (file_at files 1) (file_at files 2)
    (file_at files 3) refused
HasNoDesign most Liberty files refused = IsLibertyRefusal most (file_at files 0) (file_at files 1) (file_at files 2)
    (file_at files 3) refused

-- The timing is that of the design, which is accepted, and these are its pairs.
pub record IsSystemOf (most : Most) (design : Design) (t : Timing) : Type 0 where
  pub same : t.flat ≡ design
  pub accepted : IsAccepted most t.flat
  pub pairs : ArePairs t.flat t.pairs

-- The files stand for this timing's design, which is accepted, and these are its pairs.
pub record Gives (most : Most) (source : Source) (files : List (List ℕ)) (t : Timing) : Type 0 where
  pub design : Describes most source files t.flat
  pub accepted : IsAccepted most t.flat
  pub pairs : ArePairs t.flat t.pairs

-- The files stand for this design, which is accepted, and this is an order of its arcs. The timing has its pairs.
pub record GivesOrdered (most : Most) (source : Source) (files : List (List ℕ)) (design : Design) (order : List ℕ) :
    Type 0 where
  pub timing : Timing
  pub given : Gives most source files timing
  pub same : timing.flat ≡ design
  pub ordered : IsOrder design.arcs order

-- The files stand for no design, or for one within the limits that has no system.
pub data IsSourceRefused (most : Most) (source : Source) (files : List (List ℕ)) (refused : Refusal) : Type 0 where
  no_design : HasNoDesign most source files refused → IsSourceRefused most source files refused
  no_system : (design : Design) → Describes most source files design → IsDesign design → IsWithinLimits most design →
      IsDesignRefusal most design refused → IsSourceRefused most source files refused
