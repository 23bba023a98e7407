use Rattle.mintc_sample.proofs.SampleLaws.{no_ring, ring_more}
use Rattle.mintc_sample.proofs.ring.put_ring.Goals as goal

pub loop-latch-init : goal.loop-latch-init
loop-latch-init c = no_ring c.args.lines.now

pub loop-latch-preserved : goal.loop-latch-preserved
loop-latch-preserved c =
    ring_more c.args.lines.now c.loop-latch.lines c.put_gate.new.lines c.put_latch.new.lines c.loop-latch.latch c.loop-latch.invariant c.in_ok-put_gate.ensures c.in_ok-put_latch.ensures
