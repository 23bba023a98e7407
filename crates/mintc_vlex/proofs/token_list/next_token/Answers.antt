use Rattle.std.proofs.Common.{◌∙◌, arith}
use Rattle.mintc_vlex.proofs.TokenLaws.{token-found, token-later, token-none}
use Rattle.mintc_vlex.proofs.token_list.next_token.Goals as goal

pub returns-in-Some-clause-some : goal.returns-in-Some-clause-some
returns-in-Some-clause-some c =
    c.loop-at.invariant.same ∙ token-found c.args.text.now c.loop-at.at c.piece_at-piece.result c.in-Some.kind c.loop-at-test.true c.piece_at-piece.ensures.value c.in-Some.is

pub loop-at-preserved : goal.loop-at-preserved
loop-at-preserved c = record {
  behind = omega (arith, c.loop-at.invariant.behind);
  same = c.loop-at.invariant.same ∙ token-later c.args.text.now c.loop-at.at c.piece_at-piece.result c.loop-at-test.true c.piece_at-piece.ensures.value c.in-None.is;
}

pub returns-clause-none : goal.returns-clause-none
returns-clause-none c = c.loop-at.invariant.same ∙ token-none c.args.text.now c.loop-at.at c.loop-at-test.false
