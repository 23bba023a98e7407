use Rattle.mintc_liberty_tokens.proofs.GrammarLaws.{found, reads}
use Rattle.mintc_liberty_tokens.proofs.laws.statements_are_the_tokens.Goals as goal

pub returns : goal.returns
returns c = record {
  written = λ room ts. let f = found room ts in record { here = f.0; whole = f.1; writes = f.2; shallow = f.3 };
  read_back = reads;
}
