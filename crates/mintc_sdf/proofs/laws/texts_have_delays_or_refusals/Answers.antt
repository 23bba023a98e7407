use Rattle.mintc_sdf.proofs.EitherLaws.{have_delays_or_refusal}
use Rattle.mintc_sdf.proofs.laws.texts_have_delays_or_refusals.Goals as goal

pub returns : goal.returns
returns c = have_delays_or_refusal
