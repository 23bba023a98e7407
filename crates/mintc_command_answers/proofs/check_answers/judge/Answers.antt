use Rattle.std.proofs.Common.{sym, ◌∙◌}
use Rattle.mintc_command_answers.proofs.check_answers.judge.Goals as goal

pub judgement-requires-clause-violations : goal.judgement-requires-clause-violations
judgement-requires-clause-violations c = rw c.as_slice.ensures.value c.in_ok-violations.ensures.violations

pub judgement-requires-clause-late : goal.judgement-requires-clause-late
judgement-requires-clause-late c none = c.in_ok-violations.ensures.late (sym c.as_slice.ensures.value ∙ none)

pub judgement-requires-clause-early : goal.judgement-requires-clause-early
judgement-requires-clause-early c none = c.in_ok-violations.ensures.early (sym c.as_slice.ensures.value ∙ none)
