use Rattle.std.proofs.Common.{ℕ, List, ap, ◌∙◌, subst}
use Rattle.std.proofs.lemmas.Result.{IfOk-weaker}
use Rattle.mintc_timing.specs.Design.{Design}
use Rattle.mintcx_chain.specs.declared.stages.Stage.{Stage}
use Rattle.mintcx_csv.specs.Chains.{hop_records}
use Rattle.mintcx_csv.specs.Tables.{IsTable}
use Rattle.mintcx_csv.proofs.safe.never_csv.Goals as goal

pub returns : goal.returns
returns c =
    let design = c.args.system.now.flat in
    let rows = ap (λ (x : Design). hop_records x c.items.result.now) c.flat.ensures.value
    ∙ ap (λ (stages : List Stage). hop_records design stages) c.items.ensures in
    IfOk-weaker c.hops_csv.result _ _
    (λ text e. (c.in_ok-stages.stages, c.in_ok-stages.ensures.stages, subst (λ (r : List (List (List ℕ))). IsTable r text) rows e))
    c.hops_csv.ensures
