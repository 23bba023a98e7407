use Rattle.std.proofs.Common.{arith, ◌∙◌}
use Rattle.mintc_liberty_tokens.specs.Reading.{statement_rest}
use Rattle.mintcx_places.specs.declared.library.TheConstants.{MOST_OPEN}
use Rattle.mintcx_places.proofs.StepLaws.{none_later, one_more}
use Rattle.mintcx_places.proofs.library.pass_statements.Goals as goal

pub returns-then-not-statement-clause-passed : goal.returns-then-not-statement-clause-passed
returns-then-not-statement-clause-passed c =
    none_later (statement_rest MOST_OPEN) c.loop-passed._passed c.args.count c.args.scanner.now.tokens c.loop-passed.scanner.tokens (omega arith) c.loop-passed.invariant.passed c.if-not-statement.ensures.passed

pub loop-passed-preserved : goal.loop-passed-preserved
loop-passed-preserved c = record {
  passed = one_more (statement_rest MOST_OPEN) c.loop-passed._passed c.args.scanner.now.tokens c.loop-passed.scanner.tokens c.loop-passed.invariant.passed ∙ c.if-not-statement.ensures.passed;
  same = c.statement.ensures.ahead.same ∙ c.loop-passed.invariant.same;
}
