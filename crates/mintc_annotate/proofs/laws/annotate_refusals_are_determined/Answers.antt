use Rattle.mintc_annotate.proofs.SharedDesignLaws.{one_refusal_lem}
use Rattle.mintc_annotate.proofs.laws.annotate_refusals_are_determined.Goals as goal

pub returns : goal.returns
returns c = one_refusal_lem
