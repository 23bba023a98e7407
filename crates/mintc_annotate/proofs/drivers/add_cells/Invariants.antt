use Rattle.std.proofs.Common.{◌≡◌, ◌++◌, List, length, flat_map}
use Rattle.std.specs.List.{range_with_len}
use Rattle.mintc_annotate.specs.declared.searching.Drive.{Drive}
use Rattle.mintc_annotate.specs.Phases.{cell_drives}
use Rattle.mintc_annotate_resolve.specs.Pins.{leaf_cell}
use Rattle.mintc_annotate.specs.Searches.{AreDrivers}
use Rattle.mintc_annotate.proofs.drivers.add_cells.Given as goal

-- what the clock cells so far drive is there
abbrev pub invariant-loop-number : goal.invariant-loop-number
invariant-loop-number l =
    (length l.table ≡ length l.initial.table)
    × ((ds : List Drive) → AreDrivers ds (length l.initial.table) l.initial.table →
    AreDrivers (ds ++ flat_map (λ k. cell_drives l.hierarchy k (leaf_cell l.hierarchy l.cells k)) (range_with_len 0 l.number)) (length l.initial.table) l.table)
