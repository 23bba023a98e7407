use Rattle.std.proofs.Common.{◌+◌, ◌-◌, ◌++◌, take, ap, ◌∙◌}
use Rattle.mintc_liberty_cell.specs.Expressions.{stripped}
use Rattle.mintc_liberty_cell.proofs.BytesLaws.{one-taken}
use Rattle.mintc_liberty_cell.proofs.expressions.part.Goals as goal

pub loop-preserved : goal.loop-preserved
loop-preserved c =
    ap (λ xs. xs ++ take (c.args.size - (c.loop.counter + 1)) (stripped c.next.new.self)) c.in_ok-push.ensures.items
    ∙ one-taken c.args.size c.loop.counter c.loop.part.items (stripped c.loop.bytes) (stripped c.next.new.self) c.in-Some.byte c.loop-test.true c.in-Some.ensures.some
    ∙ c.loop.invariant
