use Rattle.std.proofs.Common.{arith, ◌<◌, ◌∙◌}
use Rattle.mintc_text_scan.proofs.SharedTokenLaws.{pass, settled-at}
use Rattle.mintc_sdf_tokens.specs.Tokens.{piece_of}
use Rattle.mintc_sdf_tokens.proofs.Sizes.{piece-fits}
use Rattle.mintc_sdf_tokens.proofs.trivia.skip_trivia.Goals as goal

pub returns-then-size-eq0-clause-settled : goal.returns-then-size-eq0-clause-settled
returns-then-size-eq0-clause-settled c = settled-at piece_of piece-fits _ _ _ c.loop-at-test.true c.trivia_size-size.ensures c.if-size-eq0.true

pub overflow_add-at : goal.overflow_add-at
overflow_add-at c =
    let some : 0 < c.trivia_size-size.result = omega (arith, c.if-size-eq0.false) in
    let p = pass piece_of piece-fits _ _ _ c.loop-at-test.true c.trivia_size-size.ensures some in
    omega (arith, p.1)

pub loop-at-preserved : goal.loop-at-preserved
loop-at-preserved c =
    let some : 0 < c.trivia_size-size.result = omega (arith, c.if-size-eq0.false) in
    let p = pass piece_of piece-fits _ _ _ c.loop-at-test.true c.trivia_size-size.ensures some in
    record { within = p.1; ahead = omega (arith, c.loop-at.invariant.ahead); same = p.0 ∙ c.loop-at.invariant.same }
