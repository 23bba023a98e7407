use Rattle.std.proofs.Common.{[], ap}
use Rattle.mintc_liberty_tokens.specs.Tokens.{is_item}
use Rattle.mintc_liberty_tokens.specs.Reading.{past}
use Rattle.mintc_liberty_tokens.proofs.statements.item.Goals as goal

pub returns-in-Colon-clause-passed : goal.returns-in-Colon-clause-passed
returns-in-Colon-clause-passed c = ap (past is_item) (c.sign.ensures.sign [])

pub returns-in-Comma-clause-passed : goal.returns-in-Comma-clause-passed
returns-in-Comma-clause-passed c = ap (past is_item) (c.sign-in-Comma.ensures.sign [])
