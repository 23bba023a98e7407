use Rattle.std.proofs.Common.{ℕ, List, ◌++◌, ap, ◌∙◌}
use Rattle.mintc_timing.specs.Design.{Design}
use Rattle.mintcx_chain.specs.declared.stages.Stage.{Stage}
use Rattle.mintcx_optima.specs.Cycles.{short_text}
use Rattle.mintcx_optima.proofs.short.short_of.Goals as goal

pub returns : goal.returns
returns c =
    let design = c.args.system.now.flat in
    let view = c.args.view.now in
    let cycle = c.args.cycle in
    let shown = c.items.result.now in (
      c.in_ok-stages.stages,
      c.in_ok-stages.ensures.stages,
      c.new.ensures ∙ c.into_bytes.ensures ∙ c.in_ok-put_short.ensures
          ∙ ap (λ (old : List ℕ). old ++ short_text c.flat.result.now cycle shown view) c.new-lines.ensures
          ∙ ap (λ (x : Design). short_text x cycle shown view) c.flat.ensures.value
          ∙ ap (λ (stages : List Stage). short_text design cycle stages view) c.items.ensures,
    )
