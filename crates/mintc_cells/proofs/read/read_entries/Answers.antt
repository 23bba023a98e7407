use Rattle.std.proofs.Common.{◌≡◌, ◌+◌, ◌++◌, [], ◌∷◌, length, string_bytes, arith, ◌∙◌, Err, ap, length-append}
use Rattle.std.proofs.lemmas.Result.{err_from_is_err_and}
use Rattle.toml.specs.View.{view, members_view}
use Rattle.mintc_cells.specs.Description.{cell_of}
use Rattle.mintc_cells.specs.CellsOf.{IsReadAs, IsFirstBad, AreRead, entries}
use Rattle.mintc_cells.proofs.EntriesLaws.{start, next_read, next_bad, passed_on, all_read, ascending, ordered}
use Rattle.mintc_cells.proofs.read.read_entries.Goals as goal

pub loop-key-init : goal.loop-key-init
loop-key-init c = ([], start c.args.table.now.entries c.into_iter-key-iterator.result c.new-cells.result.items (c.into_iter-key-iterator.ensures.into_iter_gives ∙ c.iter-key-items.ensures.rest) c.new-cells.ensures.items, omega (arith, ap length c.new-cells.ensures.items))

pub returns-in_err-add_entry-clause-value : goal.returns-in_err-add_entry-clause-value
returns-in_err-add_entry-clause-value c =
    passed_on c.from_residual.result c.in_err-add_entry.field-0.0 (λ cells. AreRead (entries (members_view c.args.table.now.entries)) cells.items)
    (λ n rule. (n ≡ length c.loop-key.cells.items + 1) × (cell_of (string_bytes c.in-Some.key.now) (view c.in-Some.value.now) ≡ Err rule)) (IsFirstBad (entries (members_view c.args.table.now.entries)))
    (let err = err_from_is_err_and c.from_residual.result c.from_residual.ensures.1 in err.1 ∙ ap Err err.2)
    (λ n rule bad. next_bad c.args.table.now.entries c.loop-key.key-iterator c.next.new.self c.loop-key.invariant.0 c.loop-key.cells.items (c.in-Some.key.now, c.in-Some.value.now) n rule c.loop-key.invariant.1 c.in-Some.ensures.steps bad.1 bad.0)
    (rw (← c.as_str.ensures.value) c.in_err-add_entry.ensures)

pub loop-key-preserved : goal.loop-key-preserved
loop-key-preserved c =
    let step = c.in_ok-add_entry.ensures in
    let reads : IsReadAs (string_bytes c.in-Some.key.now, view c.in-Some.value.now) step.0 = rw (← c.as_str.ensures.value) step.1 in
    let more = next_read c.args.table.now.entries c.loop-key.key-iterator c.next.new.self c.loop-key.invariant.0 c.loop-key.cells.items (c.in-Some.key.now, c.in-Some.value.now) step.0 c.loop-key.invariant.1 c.in-Some.ensures.steps reads in
    (c.loop-key.invariant.0 ++ (string_bytes c.in-Some.key.now, view c.in-Some.value.now) ∷ [], rw step.2 more, omega (arith, ap length step.2, length-append c.loop-key.cells.items (step.0 ∷ []), step.3))

pub returns-clause-ordered : goal.returns-clause-ordered
returns-clause-ordered c =
    let all = all_read c.args.table.now.entries c.loop-key.key-iterator c.loop-key.invariant.0 c.loop-key.cells.items c.loop-key.invariant.1 c.in-None.ensures.steps.0 in
    ordered (entries (members_view c.args.table.now.entries)) c.loop-key.cells.items all (ascending c.args.table.now.entries c.iter-key-items.ensures.ordered) c.loop-key.invariant.2

pub returns-clause-ascending : goal.returns-clause-ascending
returns-clause-ascending c = ascending c.args.table.now.entries c.iter-key-items.ensures.ordered
