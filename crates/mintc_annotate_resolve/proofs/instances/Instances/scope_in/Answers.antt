use Rattle.std.proofs.Common.{length, sym, ◌∙◌}
use Rattle.std.proofs.lemmas.Result.{IfOk-weaker}
use Rattle.mintc_annotate_resolve.specs.Pins.{scope_path}
use Rattle.mintc_annotate_resolve.proofs.SharedPathLaws.{no_scope_below}
use Rattle.mintc_annotate_resolve.proofs.SharedInstanceLaws.{step_down}
use Rattle.mintc_annotate_resolve.proofs.instances.Instances.scope_in.Goals as goal

pub returns-in-Some : goal.returns-in-Some
returns-in-Some c =
    IfOk-weaker c.find.result _ _ (λ o known h base names index at. known.1 ∙ step_down h (scope_path h) (length h.scopes) c.args.self.now.scopes base c.in-Some.number c.args.name.now index.scopes (sym c.in-Some.is ∙ at) known.0) c.find.ensures

pub returns-in-None : goal.returns-in-None
returns-in-None c = λ h base names index at. sym (no_scope_below h base c.args.name.now names (sym at ∙ c.in-None.is))
