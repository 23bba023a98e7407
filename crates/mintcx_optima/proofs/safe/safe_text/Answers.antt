use Rattle.std.proofs.Common.{ℕ, ℤ, List, ◌++◌, ap, ◌∙◌, subst, sym}
use Rattle.std.specs.Prelude.{codes}
use Rattle.mintc_timing.specs.Design.{Design}
use Rattle.mintc_safe.specs.declared.certificate.SafeCertificate.{SafeCertificate}
use Rattle.mintc_safe.specs.declared.certificate.SafeCertificate.TheVariants.{Least}
use Rattle.mintc_safe.specs.declared.members.SafeMember.{SafeMember}
use Rattle.mintcx_chain.specs.declared.stages.Stage.{Stage}
use Rattle.mintcx_optima.specs.Least.{cycle_text, unit_of}
use Rattle.mintcx_optima.specs.Safe.{AreSafeStages, IsSafeText, without_text}
use Rattle.mintcx_optima.proofs.safe.safe_text.Goals as goal

pub returns-in_ok-put_safe-in-Least : goal.returns-in_ok-put_safe-in-Least
returns-in_ok-put_safe-in-Least c =
    let design = c.args.system.now.flat in
    let view = c.args.view.now in
    let without = c.args.without.now in
    let s = c.in-Least.schedule in
    let d = c.in-Least.departures in
    let stages = c.in_ok-stages-in-Least.stages in
    let given = c.items-departures.result.now in
    let shown = c.items-in-Least.result.now in
    let second = without_text without (unit_of s view) in
    let are : AreSafeStages design d c.in-Least.chain stages =
    subst (λ (chain : List SafeMember). AreSafeStages design d chain stages) c.items.ensures
    (subst (λ (x : List ℤ). AreSafeStages design x c.items.result.now stages) c.items-departures.ensures c.in_ok-stages-in-Least.ensures.stages) in
    let text = c.new.ensures ∙ c.into_bytes.ensures ∙ c.in_ok-put_safe-in-Least.ensures
    ∙ ap (λ (old : List ℕ). old ++ cycle_text (codes "safe") second c.flat.result.now s given shown view) c.new-lines.ensures
    ∙ ap (λ (x : Design). cycle_text (codes "safe") second x s given shown view) c.flat.ensures.value
    ∙ ap (λ (x : List ℤ). cycle_text (codes "safe") second design s x shown view) c.items-departures.ensures
    ∙ ap (λ (x : List Stage). cycle_text (codes "safe") second design s d x view) c.items-in-Least.ensures in
    let answer : IsSafeText design (Least s d c.in-Least.chain) without view c.new.result = (stages, are, text) in
    subst (λ (x : SafeCertificate). IsSafeText design x without view c.new.result) (sym c.in-Least.is) answer
