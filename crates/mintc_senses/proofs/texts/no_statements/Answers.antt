use Rattle.std.proofs.Common.{ap, ◌∙◌}
use Rattle.mintc_liberty_tokens.specs.Statements.{front}
use Rattle.mintc_senses.proofs.GroupLaws.{no-statements}
use Rattle.mintc_senses.proofs.texts.no_statements.Goals as goal

pub returns : goal.returns
returns c = λ room. ap (λ ts. (front room ts).statements) c.new.ensures ∙ no-statements room
