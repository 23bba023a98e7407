use Rattle.std.proofs.Common.{◌≡◌, ◌<◌, length, ap, ◌∙◌, arith}
use Rattle.mintc_cells.specs.Entries.{names_of, cell_at}
use Rattle.mintcx_clock_cells.specs.Clocks.{cell_for}
use Rattle.mintcx_clock_cells.proofs.EntryLaws.{count-more, names-more, each-more, names-all, ordered}
use Rattle.mintcx_clock_cells.proofs.choosing.entries_with.Goals as goal

pub loop-number-preserved : goal.loop-number-preserved
loop-number-preserved c =
    let cells = c.args.cells.now in
    let before = c.loop-number.entries.items in
    let i = c.loop-number.number in
    let within : i < length cells = omega (arith, c.count-count.ensures.count) in
    record {
      count = ap length c.in_ok-push_entry.ensures ∙ count-more before c.in_ok-name.name c.in_ok-cell.cell i c.loop-number.invariant.count;
      names = ap names_of c.in_ok-push_entry.ensures ∙ names-more cells before c.in_ok-name.name c.in_ok-cell.cell i within c.loop-number.invariant.names (c.in_ok-name.ensures ∙ c.name.ensures);
      each = λ k h. ap (λ es. cell_at es k) c.in_ok-push_entry.ensures
          ∙ each-more before c.in_ok-name.name c.in_ok-cell.cell (cell_for c.args.gates.now c.args.senses.now cells) i c.loop-number.invariant.count c.loop-number.invariant.each c.in_ok-cell.ensures k h;
    }

pub returns-clause-ordered : goal.returns-clause-ordered
returns-clause-ordered c =
    let cells = c.args.cells.now in
    let end : c.loop-number.number ≡ length cells = omega (arith, c.count-count.ensures.count) in
    ordered c.args.gates.now c.args.senses.now cells c.loop-number.entries.items c.count-count.ensures.kept
    (names-all cells c.loop-number.entries.items c.loop-number.number end c.loop-number.invariant.names)
    (λ k h. c.loop-number.invariant.each k (omega (arith, end, h)))
