use Rattle.std.proofs.Common.{arith, ◌∙◌}
use Rattle.mintcx_places.specs.Entries.{behind_entry}
use Rattle.mintcx_places.proofs.StepLaws.{none_later, one_more}
use Rattle.mintcx_places.proofs.entries.pass_entries.Goals as goal

pub returns-then-not-pass_entry-clause-passed : goal.returns-then-not-pass_entry-clause-passed
returns-then-not-pass_entry-clause-passed c =
    none_later behind_entry c.loop-passed._passed c.args.count c.args.scanner.now.tokens c.loop-passed.scanner.tokens (omega arith) c.loop-passed.invariant.passed c.if-not-pass_entry.ensures.passed

pub loop-passed-preserved : goal.loop-passed-preserved
loop-passed-preserved c = record {
  passed = one_more behind_entry c.loop-passed._passed c.args.scanner.now.tokens c.loop-passed.scanner.tokens c.loop-passed.invariant.passed ∙ c.if-not-pass_entry.ensures.passed;
  ahead = grind (arith, c.loop-passed.invariant.ahead, c.pass_entry.ensures.ahead);
}
