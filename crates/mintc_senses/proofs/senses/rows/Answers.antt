use Rattle.std.proofs.Common.{[], ◌∷◌, ◌++◌, List, ℕ, map, take, ap, ◌∙◌}
use Rattle.std.proofs.lemmas.List.{map_more}
use Rattle.mintc_cells.specs.Rules.{inputs_of}
use Rattle.mintc_liberty_tokens.specs.Statements.{front}
use Rattle.mintc_liberty_cell.specs.Meaning.{groups}
use Rattle.mintc_senses_expressions.specs.declared.transitions.Transitions.{Transitions}
use Rattle.mintc_senses.specs.Senses.{sense_in}
use Rattle.mintc_senses.specs.Seen.{rows_seen}
use Rattle.mintc_senses.proofs.RowLaws.{rows-more}
use Rattle.mintc_senses.proofs.senses.rows.Goals as goal

pub loop-output-preserved : goal.loop-output-preserved
loop-output-preserved c =
    let row_of : List ℕ → List Transitions = λ y. map (λ a. sense_in (groups (front 62 c.args.inside.now).statements) c.args.cell.now a y) (inputs_of c.args.cell.now) in
    let i = c.loop-output.output-index in
    rw (map_more row_of c.args.outputs.now i c.output-item.result c.loop-output-test.true)
    (ap rows_seen c.in_ok-push_row.ensures ∙ rows-more c.loop-output.rows.items c.in_ok-next.next ∙ ap (λ l. l ++ c.in_ok-next.next.items ∷ []) c.loop-output.invariant
    ∙ ap (λ r. map row_of (take i c.args.outputs.now) ++ r ∷ []) (c.in_ok-next.ensures ∙ ap row_of c.output-item.is))
