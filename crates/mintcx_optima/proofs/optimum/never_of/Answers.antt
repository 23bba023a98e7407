use Rattle.std.proofs.Common.{ℕ, List, ◌++◌, ap, ◌∙◌}
use Rattle.mintc_timing.specs.Design.{Design}
use Rattle.mintcx_chain.specs.declared.stages.Stage.{Stage}
use Rattle.mintcx_optima.specs.Never.{never_text}
use Rattle.mintcx_optima.proofs.optimum.never_of.Goals as goal

pub returns : goal.returns
returns c =
    let design = c.args.system.now.flat in
    let view = c.args.view.now in
    let shown = c.items.result.now in (
      c.in_ok-stages.stages,
      c.in_ok-stages.ensures.stages,
      c.new.ensures ∙ c.into_bytes.ensures ∙ c.in_ok-put_never.ensures
          ∙ ap (λ (old : List ℕ). old ++ never_text c.flat.result.now shown view) c.new-lines.ensures
          ∙ ap (λ (x : Design). never_text x shown view) c.flat.ensures.value
          ∙ ap (λ (stages : List Stage). never_text design stages view) c.items.ensures,
    )
