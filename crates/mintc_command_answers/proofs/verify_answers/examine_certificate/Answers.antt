use Rattle.std.proofs.Common.{rules}
use Rattle.mintc_command_answers.proofs.verify_answers.examine_certificate.Goals as goal

pub returns : goal.returns
returns c = λ t same pairs. (c.in_ok-verdict.verdict, c.in_ok-verdict.ensures.verdict t same pairs, search rules, search rules)
