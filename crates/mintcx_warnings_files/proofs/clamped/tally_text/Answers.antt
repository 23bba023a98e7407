use Rattle.std.proofs.Common.{List, ℕ, inr, subst}
use Rattle.std.proofs.lemmas.Result.{IfOk-weaker}
use Rattle.mintcx_warnings.specs.declared.writing.Scene.{Scene}
use Rattle.mintcx_warnings.specs.Clamped.{clamped_said}
use Rattle.mintcx_warnings.specs.Warnings.{IsWarning}
use Rattle.mintcx_warnings_files.proofs.clamped.tally_text.Goals as goal

pub returns : goal.returns
returns c =
    let file = c.args.delays.now in
    let delays = c.args.tally.now.values in
    let numbers = c.args.numbers in
    let place = c.place_in-place.result in
    let first = c.items.result.now in
    let least = c.items-2.result.now in
    let amount = c.items-3.result.now in
    IfOk-weaker c.clamped_text.result _ _ (λ text h. inr (
      delays,
      numbers,
      first,
      least,
      amount,
      (place, subst (λ (s : Scene). IsWarning s.name.now s.text.now s.place (clamped_said delays numbers first least amount) text) c.scene.ensures h),
    )) c.clamped_text.ensures
