use Rattle.mintc_senses_expressions.proofs.WrittenLaws.{written}
use Rattle.mintc_senses_expressions.proofs.ReadBackLaws.{read-back}
use Rattle.mintc_senses_expressions.proofs.laws.expressions_are_the_texts.Goals as goal

pub returns : goal.returns
returns c = record { written = written; read_back = read-back }
