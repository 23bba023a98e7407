use Rattle.std.proofs.Common.{[], ap}
use Rattle.mintc_liberty_tokens.specs.Reading.{value_at}
use Rattle.mintc_liberty_tokens.proofs.statements.value_token.Goals as goal

pub returns-in-Opening-clause-some : goal.returns-in-Opening-clause-some
returns-in-Opening-clause-some c = ap value_at (c.sign.ensures.sign [])

pub returns-in-Closing-clause-some : goal.returns-in-Closing-clause-some
returns-in-Closing-clause-some c = ap value_at (c.sign-in-Closing.ensures.sign [])

pub returns-in-Colon-clause-some : goal.returns-in-Colon-clause-some
returns-in-Colon-clause-some c = ap value_at (c.sign-in-Colon.ensures.sign [])

pub returns-in-Comma-clause-some : goal.returns-in-Comma-clause-some
returns-in-Comma-clause-some c = ap value_at (c.sign-in-Comma.ensures.sign [])
