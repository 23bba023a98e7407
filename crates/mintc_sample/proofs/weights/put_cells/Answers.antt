use Rattle.mintc_sample.proofs.SampleLaws.{no_entries, entries_more}
use Rattle.mintc_sample.proofs.weights.put_cells.Goals as goal

pub loop-latch-init : goal.loop-latch-init
loop-latch-init c = no_entries c.args.number c.args.lines.now

pub loop-latch-preserved : goal.loop-latch-preserved
loop-latch-preserved c =
    entries_more c.args.number c.args.lines.now c.loop-latch.lines c.put_cell.new.lines c.loop-latch.latch c.loop-latch.invariant c.in_ok-put_cell.ensures
