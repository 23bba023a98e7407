use Rattle.mintc_annotate.proofs.SharedEachLaws.{have_design_or_refusal}
use Rattle.mintc_annotate.proofs.laws.there_is_a_design_or_a_refusal.Goals as goal

pub returns : goal.returns
returns c = have_design_or_refusal
