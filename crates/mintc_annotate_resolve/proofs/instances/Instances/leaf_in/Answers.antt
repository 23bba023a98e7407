use Rattle.std.proofs.Common.{length, sym, ◌∙◌}
use Rattle.std.proofs.lemmas.Result.{IfOk-weaker}
use Rattle.mintc_annotate_resolve.specs.Pins.{leaf_path}
use Rattle.mintc_annotate_resolve.proofs.SharedPathLaws.{no_leaf_below}
use Rattle.mintc_annotate_resolve.proofs.SharedInstanceLaws.{step_down}
use Rattle.mintc_annotate_resolve.proofs.instances.Instances.leaf_in.Goals as goal

pub returns-in-Some : goal.returns-in-Some
returns-in-Some c =
    IfOk-weaker c.find.result _ _ (λ o known h base names index at. known.1 ∙ step_down h (leaf_path h) (length h.leaves) c.args.self.now.leaves base c.in-Some.number c.args.name.now index.leaves (sym c.in-Some.is ∙ at) known.0) c.find.ensures

pub returns-in-None : goal.returns-in-None
returns-in-None c = λ h base names index at. sym (no_leaf_below h base c.args.name.now names (sym at ∙ c.in-None.is))
