use Rattle.std.proofs.Common.{◌≡◌, ◌∙◌, List, ℕ, [], ap, subst}
use Rattle.std.proofs.lemmas.Result.{IfOk-weaker}
use Rattle.mintc_clock.specs.declared.clock.Listed.{Listed}
use Rattle.mintc_timing.specs.Design.{Design}
use Rattle.mintcx_frame.specs.Names.{phase_name}
use Rattle.mintcx_warnings.specs.declared.writing.Scene.{Scene}
use Rattle.mintcx_warnings.specs.Outputs.{late_said}
use Rattle.mintcx_warnings.specs.Warnings.{IsWarning}
use Rattle.mintcx_warnings_files.specs.Written.{output_name}
use Rattle.mintcx_warnings_files.proofs.late.outputs_text.Goals as goal

pub returns : goal.returns
returns c =
    let p = c.args.parts.now in
    let file = c.args.clock.now in
    let place = c.item_value-place.result in
    let output : c.output_name.result.now ≡ output_name p.clock.outputs c.args.first = c.output_name.ensures ∙ ap (λ (l : List Listed). output_name l c.args.first) c.items.ensures in
    let phase : c.phase_name.result.now ≡ phase_name p.system.flat c.args.phase = c.phase_name.ensures ∙ ap (λ (d : Design). phase_name d c.args.phase) c.flat.ensures.value in
    IfOk-weaker c.late_text.result _ _ (λ text h. (
      place,
      subst (λ (n : ℕ). IsWarning file.name.now file.text.now place (late_said (output_name p.clock.outputs c.args.first) n (phase_name p.system.flat c.args.phase) []) text) c.requires.count
          (subst (λ (n : List ℕ). IsWarning file.name.now file.text.now place (late_said (output_name p.clock.outputs c.args.first) c.args.count n []) text) phase
          (subst (λ (n : List ℕ). IsWarning file.name.now file.text.now place (late_said n c.args.count c.phase_name.result.now []) text) output
          (subst (λ (s : Scene). IsWarning s.name.now s.text.now s.place (late_said c.output_name.result.now c.args.count c.phase_name.result.now []) text) c.scene.ensures h))),
    )) c.late_text.ensures
