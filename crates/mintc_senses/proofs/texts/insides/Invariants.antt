use Rattle.std.proofs.Common.{◌≡◌, ℕ, ◌<◌, length, get_or, None, vec_len}
use Rattle.std.specs.Option.{option_or}
use Rattle.mintc_cells.specs.Entries.{name_at}
use Rattle.mintc_liberty_tokens.specs.Statements.{front}
use Rattle.mintc_liberty_cell.specs.Meaning.{groups}
use Rattle.mintc_liberty.specs.Meaning.{cells_in}
use Rattle.mintc_senses.specs.Senses.{cell_inside}
use Rattle.mintc_senses.specs.Seen.{inside_seen}
use Rattle.mintc_senses.proofs.texts.insides.Given as goal

-- what is found, and else the first of those that are left
abbrev pub invariant-loop-group : goal.invariant-loop-group
invariant-loop-group l = record {
  count : vec_len l.found ≡ length l.cells;
  found : (k : ℕ) → k < length l.cells →
      option_or (inside_seen (get_or l.found.items k None)) (cell_inside (name_at l.cells k) (cells_in (groups (front 63 l.reader).statements)))
      ≡ cell_inside (name_at l.cells k) (cells_in (groups (front 63 l.library).statements));
}

abbrev pub decreases-loop-group : goal.decreases-loop-group
decreases-loop-group l = length l.reader
