use Rattle.mintc_command_answers.proofs.OptimumLaws.{verify_answer}
use Rattle.mintc_command_answers.proofs.laws.optima_are_verified.Goals as goal

pub returns : goal.returns
returns c = verify_answer c.written_certificates_are_read.ensures.read
