-- The warnings of what files say.
use Rattle.std.specs.Prelude.{◌≡◌, ℕ, List, ◌++◌}
use Rattle.mintcx_warnings_files.specs.declared.files.Files.{Files}
use Rattle.mintcx_warnings_files.specs.declared.parts.Parts.{Parts}
use Rattle.mintcx_warnings_files.specs.Written.{IsOfCells, IsOfPairs, IsOfPhases, IsOfPorts}

-- These are the warnings of what the files say: of pairs of latches, of phases, of cells, and of ports.
pub record AreTold (files : Files) (parts : Parts) (text : List ℕ) : Type 0 where
  pub same : List ℕ
  pub late : List ℕ
  pub entered : List ℕ
  pub unlisted : List ℕ
  pub is_same : IsOfPairs files.clock parts same
  pub is_late : IsOfPhases files.clock parts late
  pub is_entered : IsOfCells files.cells parts entered
  pub is_unlisted : IsOfPorts files.netlist parts unlisted
  pub whole : text ≡ same ++ late ++ entered ++ unlisted
