use Rattle.mintc_existence.proofs.TextLaws.{fractions_have_lowest_terms_lem}
use Rattle.mintc_existence.proofs.laws.fractions_have_lowest_terms.Goals as goal

pub returns : goal.returns
returns c = fractions_have_lowest_terms_lem
