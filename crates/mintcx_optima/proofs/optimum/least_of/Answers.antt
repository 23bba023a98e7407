use Rattle.std.proofs.Common.{ℕ, List, ◌++◌, ap, ◌∙◌}
use Rattle.mintc_timing.specs.Design.{Design}
use Rattle.mintcx_chain.specs.declared.stages.Stage.{Stage}
use Rattle.mintcx_optima.specs.Least.{least_text}
use Rattle.mintcx_optima.proofs.optimum.least_of.Goals as goal

pub returns : goal.returns
returns c =
    let design = c.args.system.now.flat in
    let s = c.args.schedule.now in
    let d = c.args.departures.now in
    let view = c.args.view.now in
    let shown = c.items.result.now in (
      c.in_ok-stages.stages,
      c.in_ok-stages.ensures.stages,
      c.new.ensures ∙ c.into_bytes.ensures ∙ c.in_ok-put_least.ensures
          ∙ ap (λ (old : List ℕ). old ++ least_text c.flat.result.now s d shown view) c.new-lines.ensures
          ∙ ap (λ (x : Design). least_text x s d shown view) c.flat.ensures.value
          ∙ ap (λ (stages : List Stage). least_text design s d stages view) c.items.ensures,
    )
