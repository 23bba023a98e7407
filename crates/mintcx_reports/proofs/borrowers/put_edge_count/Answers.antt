use Rattle.std.proofs.lemmas.Result.{on_ok_weaker}
use Rattle.mintcx_reports.proofs.WrittenLaws.{at_edges, at_one_edge}
use Rattle.mintcx_reports.proofs.borrowers.put_edge_count.Goals as goal

-- src/borrowers.rt:184:9
pub returns-then-count-eq1 : goal.returns-then-count-eq1
returns-then-count-eq1 c =
    on_ok_weaker c.put-then-count-eq1-2.result
    (λ e. at_one_edge c.args.lines.now c.put-then-count-eq1.new.self c.put_number.new.lines c.put-then-count-eq1-2.new.self c.args.count c.args.all
    c.if-count-eq1.true c.in_ok-put.ensures.ok c.in_ok-put_number.ensures e)
    c.put-then-count-eq1-2.ensures.ok

-- src/borrowers.rt:175:1
pub returns : goal.returns
returns c =
    on_ok_weaker c.put-4.result
    (λ e. at_edges c.args.lines.now c.put-2.new.self c.put_number-2.new.lines c.put-3.new.self c.put_number-3.new.lines c.put-4.new.self
    c.args.count c.args.all c.if-count-eq0.false c.if-count-eq1.false
    c.in_ok-put-2.ensures.ok c.in_ok-put_number-2.ensures c.in_ok-put-3.ensures.ok c.in_ok-put_number-3.ensures e)
    c.put-4.ensures.ok
