use Rattle.mintc_sample.proofs.SampleLaws.{three_parts}
use Rattle.mintc_sample.proofs.weights.delays.Goals as goal

pub returns : goal.returns
returns c =
    three_parts c.new-lines.result c.put.new.self c.put_cells.new.lines c.put-2.new.self c.into_bytes.result.items _ _ _
    c.new-lines.ensures c.in_ok-put.ensures.ok c.in_ok-put_cells.ensures c.in_ok-put-2.ensures.ok c.into_bytes.ensures
