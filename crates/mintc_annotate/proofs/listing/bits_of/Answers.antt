use Rattle.std.proofs.lemmas.Result.{IfOk-weaker}
use Rattle.mintc_annotate.proofs.BuildLaws.{are_bits}
use Rattle.mintc_annotate.proofs.listing.bits_of.Goals as goal

pub returns : goal.returns
returns c = IfOk-weaker c.bits_in.result _ _ (λ v h. are_bits c.args.hierarchy.now c.args.output c.args.listed.now v.items c.requires (rw c.items.ensures at h.0) h.1) c.bits_in.ensures
