use Rattle.std.proofs.Common.{◌≡◌, map, take}
use Rattle.mintc_liberty_cell.specs.Meaning.{groups}
use Rattle.mintc_liberty.specs.Meaning.{cells_in}
use Rattle.mintc_senses.specs.Senses.{senses_by, groups_of_cell, library_inside}
use Rattle.mintc_senses.specs.Seen.{senses_seen}
use Rattle.mintc_senses.proofs.senses.read_senses.Given as goal

-- the senses of the cells so far
abbrev pub invariant-loop-number : goal.invariant-loop-number
invariant-loop-number l = senses_seen l.all.items ≡ map (λ e. senses_by (groups_of_cell (cells_in (groups (library_inside l.text))) e.0) e.1) (take l.number l.cells)
