use Rattle.std.proofs.Common.{List, ℕ, subst}
use Rattle.std.proofs.lemmas.Result.{IfOk-weaker}
use Rattle.mintcx_warnings.specs.declared.writing.Scene.{Scene}
use Rattle.mintcx_warnings.specs.Data.{data_said}
use Rattle.mintcx_warnings.specs.Warnings.{IsWarning}
use Rattle.mintcx_warnings_files.proofs.entered.paths_text.Goals as goal

pub returns : goal.returns
returns c =
    let file = c.args.met.now.cells.now in
    let net = c.name_of.result.now in
    let pin = c.pin_of-pin.result.now in
    let instance = c.before_part.result.now in
    IfOk-weaker c.data_text.result _ _ (λ text h. (
      net,
      pin,
      instance,
      (
        c.heading_of-place.result,
        subst (λ (n : List ℕ). IsWarning file.name.now file.text.now c.heading_of-place.result (data_said n c.args.count net pin instance) text) c.name.ensures
            (subst (λ (s : Scene). IsWarning s.name.now s.text.now s.place (data_said c.name.result.now c.args.count net pin instance) text) c.scene.ensures h),
      ),
    )) c.data_text.ensures
