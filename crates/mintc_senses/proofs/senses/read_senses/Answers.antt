use Rattle.std.proofs.Common.{◌≡◌, ◌<◌, [], ◌∷◌, ◌++◌, List, ℕ, length, get_or, None, map, take, unwrap_or, ap, ◌∙◌, arith}
use Rattle.std.proofs.lemmas.List.{map_more}
use Rattle.std.proofs.Math.Seq.{take-length}
use Rattle.mintc_cells.specs.declared.cell.Cell.{Cell}
use Rattle.mintc_cells.specs.Entries.{no_cell, name_at, cell_at}
use Rattle.mintc_liberty_tokens.specs.Statements.{none}
use Rattle.mintc_liberty_cell.specs.Meaning.{groups}
use Rattle.mintc_liberty.specs.Meaning.{cells_in}
use Rattle.mintc_senses_expressions.specs.declared.transitions.Transitions.{Transitions}
use Rattle.mintc_senses.specs.Senses.{senses_by, groups_of_cell, library_inside, cell_inside}
use Rattle.mintc_senses.specs.Seen.{inside_seen, rows_seen, senses_seen}
use Rattle.mintc_senses.proofs.RowLaws.{cells-more}
use Rattle.mintc_senses.proofs.senses.read_senses.Goals as goal

pub loop-number-preserved : goal.loop-number-preserved
loop-number-preserved c =
    let cells = c.args.cells.now in
    let i = c.loop-number.number in
    let inside = c.library.ensures in
    let of_cell : (List ℕ × Cell) → List (List Transitions) = λ e. senses_by (groups_of_cell (cells_in (groups (library_inside c.args.text.now))) e.0) e.1 in
    let within : i < length cells = omega (arith, c.count-number-end.ensures.count) in
    let seen : inside_seen (get_or c.as_slice-places.result.now i None) ≡ cell_inside (name_at cells i) (cells_in (groups (library_inside c.args.text.now))) =
    ap (λ xs. inside_seen (get_or xs i None)) c.as_slice-places.ensures.value ∙ c.in_ok-insides.ensures.found i within ∙ ap (λ is. cell_inside (name_at cells i) (cells_in (groups is))) inside in
    let rows : rows_seen c.in_ok-next.next.items ≡ of_cell (get_or cells i no_cell) =
    c.in_ok-next.ensures ∙ ap (λ o. senses_by (groups (unwrap_or o none)) (cell_at cells i)) seen in
    rw (map_more of_cell cells i no_cell within)
    (ap senses_seen c.in_ok-push_cell.ensures ∙ cells-more c.loop-number.all.items c.in_ok-next.next ∙ ap (λ l. l ++ rows_seen c.in_ok-next.next.items ∷ []) c.loop-number.invariant
    ∙ ap (λ r. map of_cell (take i cells) ++ r ∷ []) rows)

pub returns : goal.returns
returns c =
    let cells = c.args.cells.now in
    let of_cell : (List ℕ × Cell) → List (List Transitions) = λ e. senses_by (groups_of_cell (cells_in (groups (library_inside c.args.text.now))) e.0) e.1 in
    let end : c.loop-number.number ≡ length cells = omega (arith, c.count-number-end.ensures.count) in
    c.loop-number.invariant ∙ ap (λ n. map of_cell (take n cells)) end ∙ ap (map of_cell) (take-length cells)
