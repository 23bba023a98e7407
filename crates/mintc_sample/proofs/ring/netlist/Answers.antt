use Rattle.mintc_sample.proofs.SampleLaws.{three_parts}
use Rattle.mintc_sample.proofs.ring.netlist.Goals as goal

pub returns : goal.returns
returns c =
    three_parts c.new-lines.result c.put.new.self c.put_ring.new.lines c.put-2.new.self c.into_bytes.result.items _ _ _
    c.new-lines.ensures c.in_ok-put.ensures.ok c.in_ok-put_ring.ensures c.in_ok-put-2.ensures.ok c.into_bytes.ensures
