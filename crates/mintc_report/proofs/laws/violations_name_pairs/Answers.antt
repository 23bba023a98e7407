use Rattle.mintc_report.proofs.NamedLaws.{violations_name_pairs_lem}
use Rattle.mintc_report.proofs.laws.violations_name_pairs.Goals as goal

pub returns : goal.returns
returns c = violations_name_pairs_lem
