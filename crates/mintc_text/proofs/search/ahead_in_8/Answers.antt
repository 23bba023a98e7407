use Rattle.std.proofs.Common.{arith}
use Rattle.mintc_text.proofs.SearchLaws.{none_marked, first_marked}
use Rattle.mintc_text.proofs.search.ahead_in_8.Goals as goal

pub returns-then-marks-eq0-clause-none_before : goal.returns-then-marks-eq0-clause-none_before
returns-then-marks-eq0-clause-none_before c = none_marked c.args.byte c.args.bytes.now c.args.at 8 c.requires (omega arith) c.if-marks-eq0.true

pub returns-else-marks-eq0-clause-within : goal.returns-else-marks-eq0-clause-within
returns-else-marks-eq0-clause-within c = (first_marked c.args.byte c.args.bytes.now c.args.at 8 c.requires (omega arith) c.if-marks-eq0.false).within

pub returns-else-marks-eq0-clause-none_before : goal.returns-else-marks-eq0-clause-none_before
returns-else-marks-eq0-clause-none_before c = (first_marked c.args.byte c.args.bytes.now c.args.at 8 c.requires (omega arith) c.if-marks-eq0.false).none_before

pub returns-else-marks-eq0-clause-here : goal.returns-else-marks-eq0-clause-here
returns-else-marks-eq0-clause-here c = (first_marked c.args.byte c.args.bytes.now c.args.at 8 c.requires (omega arith) c.if-marks-eq0.false).here
