use Rattle.std.proofs.Common.{sym, ap, ◌∙◌, length, arith}
use Rattle.mintc_liberty_cell.specs.Expressions.{stripped}
use Rattle.mintc_liberty_cell.proofs.TextLaws.{stripped-white, stripped-other}
use Rattle.mintc_liberty_cell.proofs.bytes.ValueBytes.next.Goals as goal

pub returns-then-not-is_white-clause-some : goal.returns-then-not-is_white-clause-some
returns-then-not-is_white-clause-some c =
    c.loop-byte.invariant ∙ ap stripped c.in-Some.ensures.some ∙ stripped-other c.in-Some.byte c.byte.new.self (sym c.if-not-is_white.ensures)

pub loop-byte-smaller : goal.loop-byte-smaller
loop-byte-smaller c = let one = ap length c.in-Some.ensures.some in omega (arith, one)

pub loop-byte-preserved : goal.loop-byte-preserved
loop-byte-preserved c =
    c.loop-byte.invariant ∙ ap stripped c.in-Some.ensures.some ∙ stripped-white c.in-Some.byte c.byte.new.self (sym c.if-not-is_white.ensures)

pub returns-clause-none : goal.returns-clause-none
returns-clause-none c = (c.loop-byte.invariant ∙ ap stripped c.in_default.ensures.none.0, ap stripped c.in_default.ensures.none.1)
