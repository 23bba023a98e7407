use Rattle.std.proofs.Common.{ℕ, List, ◌++◌, ap, ◌∙◌}
use Rattle.std.specs.Prelude.{codes}
use Rattle.mintc_timing.specs.Design.{Design}
use Rattle.mintcx_chain.specs.declared.stages.Stage.{Stage}
use Rattle.mintcx_optima.specs.Never.{none_text}
use Rattle.mintcx_optima.proofs.safe.safe_never_of.Goals as goal

pub returns : goal.returns
returns c =
    let design = c.args.system.now.flat in
    let view = c.args.view.now in
    let claim = codes "no schedule keeps each hold" in
    let shown = c.items.result.now in (
      c.in_ok-stages.stages,
      c.in_ok-stages.ensures.stages,
      c.new.ensures ∙ c.into_bytes.ensures ∙ c.in_ok-put_never.ensures
          ∙ ap (λ (old : List ℕ). old ++ none_text claim c.flat.result.now shown view) c.new-lines.ensures
          ∙ ap (λ (x : Design). none_text claim x shown view) c.flat.ensures.value
          ∙ ap (λ (stages : List Stage). none_text claim design stages view) c.items.ensures,
    )
