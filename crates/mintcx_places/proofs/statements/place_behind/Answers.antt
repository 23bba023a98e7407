use Rattle.std.proofs.Common.{arith, sym, ◌∙◌}
use Rattle.mintc_vlex.specs.Tokens.{tokens_behind, tokens_of}
use Rattle.mintcx_places.proofs.TurnLaws.{none_at_end, none_later, one_more}
use Rattle.mintcx_places.proofs.statements.place_behind.Goals as goal

pub returns-in-None-clause-value : goal.returns-in-None-clause-value
returns-in-None-clause-value c =
    let text = c.args.text.now in
    none_at_end text
    ∙ sym (none_later text c.loop-passed._passed c.args.count (tokens_of text) (omega arith) (sym c.loop-passed.invariant.same ∙ c.in-None.ensures.none))

pub loop-passed-preserved : goal.loop-passed-preserved
loop-passed-preserved c =
    let text = c.args.text.now in
    let first = c.in-Some.first in
    record {
      within = c.statement_end-at.ensures.within;
      same = c.statement_end-at.ensures.value
          ∙ sym (one_more text c.loop-passed._passed (tokens_of text) (tokens_behind text first.to) first (sym c.loop-passed.invariant.same ∙ c.in-Some.ensures.some));
    }
