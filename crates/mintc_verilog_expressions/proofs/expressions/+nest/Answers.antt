use Rattle.std.proofs.Common.{None, sym, ap, ◌∙◌, subst, arith}
use Rattle.std.proofs.lemmas.Result.{err_from_is_err_and}
use Rattle.mintc_verilog_expressions.specs.Reading.{one_piece, plain_at}
use Rattle.mintc_verilog_expressions.proofs.SharedWritten.{braceless}
use Rattle.mintc_verilog_expressions.proofs.SharedHalted.{at_halt, halts-weaker, gives-by}
use Rattle.mintc_verilog_expressions.proofs.Nest.{Listing, listing-begun, listing-none, listing-full, listing-last, listing-more, listing-shrinks, expression-zero, expression-braced, turns-zero, turns-more, repeat-many, repeat-few, closes, stays-open, stays-more}
use Rattle.mintc_verilog_expressions.proofs.expressions.+nest.Goals as goal

pub read_expression-returns-then-depth-eq0 : goal.read_expression-returns-then-depth-eq0
read_expression-returns-then-depth-eq0 t c =
    gives-by c.one.result (λ v. (v.items, c.one.new.reader)) _ _ (expression-zero c.args.depth c.args.reader.now (omega arith)) c.one.ensures

pub read_expression-returns-then-not-eat : goal.read_expression-returns-then-not-eat
read_expression-returns-then-not-eat t c =
    gives-by c.one-then-not-eat.result (λ v. (v.items, c.one-then-not-eat.new.reader)) _ _
    (braceless c.args.depth c.args.reader.now c.if-not-eat.ensures.0 ∙ ap (λ l. one_piece (plain_at l)) (sym c.if-not-eat.ensures.1)) c.one-then-not-eat.ensures

pub read_expression-returns : goal.read_expression-returns
read_expression-returns t c =
    gives-by c.read_inside.result (λ v. (v.items, c.read_inside.new.reader)) _ _ (expression-braced c.args.depth c.args.reader.now c.eat.new.self (omega arith) c.if-not-eat.ensures) c.read_inside.ensures

pub read_items-loop-out-init : goal.read_items-loop-out-init
read_items-loop-out-init t c = listing-begun c.args.depth c.args.reader.now c.new-out.result.items c.new-out.ensures.items

pub read_items-returns-in_err-more : goal.read_items-returns-in_err-more
read_items-returns-in_err-more t c =
    at_halt c.from_residual.result c.in_err-more.field-0.0 _ _ (err_from_is_err_and c.from_residual.result c.from_residual.ensures.1)
    (halts-weaker _ _ _ (listing-none c.args.depth c.args.reader.now c.loop-out.out.items c.loop-out.reader c.loop-out.invariant) c.in_err-more.ensures)

pub read_items-returns-then-len : goal.read_items-returns-then-len
read_items-returns-then-len t c =
    listing-full c.args.depth c.args.reader.now c.loop-out.out.items c.loop-out.reader c.in_ok-more.more.items c.read_expression.new.reader c.loop-out.invariant c.in_ok-more.ensures (omega arith)

pub read_items-returns-then-not-eat : goal.read_items-returns-then-not-eat
read_items-returns-then-not-eat t c =
    listing-last c.args.depth c.args.reader.now c.loop-out.out.items c.loop-out.reader c.in_ok-more.more.items c.read_expression.new.reader c.loop-out.invariant c.in_ok-more.ensures (omega arith) c.if-not-eat.ensures.0
    ∙ cc (c.in_ok-append.ensures.items, c.if-not-eat.ensures.1)

pub read_items-loop-out-smaller : goal.read_items-loop-out-smaller
read_items-loop-out-smaller t c =
    listing-shrinks c.args.depth c.loop-out.reader c.in_ok-more.more.items c.read_expression.new.reader c.eat.new.self c.in_ok-more.ensures c.if-not-eat.ensures

pub read_items-loop-out-preserved : goal.read_items-loop-out-preserved
read_items-loop-out-preserved t c =
    subst (λ o. Listing c.args.depth c.args.reader.now o c.eat.new.self) (sym c.in_ok-append.ensures.items)
    (listing-more c.args.depth c.args.reader.now c.loop-out.out.items c.loop-out.reader c.in_ok-more.more.items c.read_expression.new.reader c.eat.new.self c.loop-out.invariant c.in_ok-more.ensures (omega arith) c.if-not-eat.ensures)

pub read_turns-returns-then-depth-eq0 : goal.read_turns-returns-then-depth-eq0
read_turns-returns-then-depth-eq0 t c = turns-zero c.args.depth c.args.times c.args.reader.now c.eat.new.self (omega arith) c.if-not-eat.ensures

pub read_turns-returns-in_err-pieces : goal.read_turns-returns-in_err-pieces
read_turns-returns-in_err-pieces t c =
    at_halt c.from_residual.result c.in_err-pieces.field-0.0 _ _ (err_from_is_err_and c.from_residual.result c.from_residual.ensures.1)
    (halts-weaker _ _ _ (λ e. turns-more c.args.depth c.args.times c.args.reader.now c.eat.new.self None (omega arith) c.if-not-eat.ensures e) c.in_err-pieces.ensures)

pub read_turns-returns-then-len-times : goal.read_turns-returns-then-len-times
read_turns-returns-then-len-times t c =
    turns-more c.args.depth c.args.times c.args.reader.now c.eat.new.self _ (omega arith) c.if-not-eat.ensures c.in_ok-pieces.ensures
    ∙ repeat-many c.args.times (c.in_ok-pieces.pieces.items, c.read_items.new.reader) (omega arith) (omega arith)

pub read_turns-returns-then-not-eat-2 : goal.read_turns-returns-then-not-eat-2
read_turns-returns-then-not-eat-2 t c =
    turns-more c.args.depth c.args.times c.args.reader.now c.eat.new.self _ (omega arith) c.if-not-eat.ensures c.in_ok-pieces.ensures
    ∙ repeat-few c.args.times (c.in_ok-pieces.pieces.items, c.read_items.new.reader) (omega arith) (omega arith)
    ∙ stays-more c.args.times c.in_ok-pieces.pieces.items c.read_items.new.reader c.if-not-eat-2.ensures.0

pub read_turns-returns-then-not-eat-3 : goal.read_turns-returns-then-not-eat-3
read_turns-returns-then-not-eat-3 t c =
    turns-more c.args.depth c.args.times c.args.reader.now c.eat.new.self _ (omega arith) c.if-not-eat.ensures c.in_ok-pieces.ensures
    ∙ repeat-few c.args.times (c.in_ok-pieces.pieces.items, c.read_items.new.reader) (omega arith) (omega arith)
    ∙ stays-open c.args.times c.in_ok-pieces.pieces.items c.read_items.new.reader c.eat-2.new.self c.if-not-eat-2.ensures c.if-not-eat-3.ensures.0

pub read_turns-returns : goal.read_turns-returns
read_turns-returns t c =
    turns-more c.args.depth c.args.times c.args.reader.now c.eat.new.self _ (omega arith) c.if-not-eat.ensures c.in_ok-pieces.ensures
    ∙ repeat-few c.args.times (c.in_ok-pieces.pieces.items, c.read_items.new.reader) (omega arith) (omega arith)
    ∙ closes c.args.times c.in_ok-pieces.pieces.items c.read_items.new.reader c.eat-2.new.self c.eat-3.new.self c.if-not-eat-2.ensures c.if-not-eat-3.ensures
    ∙ cc (c.in_ok-repeat.ensures)
