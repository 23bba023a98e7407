use Rattle.std.proofs.Common.{◌≡◌, ℕ, List, ◌++◌, ap, ◌∙◌, subst}
use Rattle.std.specs.Prelude.{codes, OnOk}
use Rattle.mintcx_amounts.specs.declared.unit.Unit.{Unit}
use Rattle.mintcx_optima.specs.Least.{cycle_text, unit_of}
use Rattle.mintcx_optima.specs.Safe.{without_text}
use Rattle.mintcx_optima.proofs.safe.put_safe.Goals as goal

pub returns : goal.returns
returns c =
    let old = c.args.lines.now in
    let flat = c.args.flat.now in
    let s = c.args.decided.now.schedule.now in
    let d = c.args.decided.now.departures.now in
    let stages = c.args.decided.now.stages.now in
    let view = c.args.view.now in
    let without = c.args.without.now in
    let unit : c.unit_of.result ≡ unit_of s view = c.unit_of.ensures in
    let second : c.deref.result.now ≡ without_text without (unit_of s view) =
    c.deref.ensures.value ∙ c.into_bytes-second.ensures ∙ c.in_ok-put_without.ensures
    ∙ ap (λ (x : List ℕ). x ++ without_text without c.unit_of.result) c.new-second.ensures ∙ ap (λ (x : Unit). without_text without x) unit in
    subst (λ (x : List ℕ). OnOk c.put_least.result (c.put_least.new.lines ≡ old ++ cycle_text (codes "safe") x flat s d stages view)) second c.put_least.ensures
