use Rattle.std.proofs.Common.{◌≡◌, ◌∙◌, sym, ap}
use Rattle.std.specs.Prelude.{List, filter}
use Rattle.mintc_clock.specs.declared.clock.PhaseDef.{PhaseDef}
use Rattle.mintcx_lint.specs.Leaving.{is_left}
use Rattle.mintcx_lint.specs.Ports.{count_of, unlisted}
use Rattle.mintcx_lint.proofs.LeavingLaws.{left_are}
use Rattle.std.proofs.Common.{true, false}
use Rattle.mintcx_lint.proofs.ports.unlisted_ports.Goals as goal

pub returns-in-Some-clause-found : goal.returns-in-Some-clause-found
returns-in-Some-clause-found c =
    let ports = c.args.ports.now in
    let clock = c.args.clock.now in
    let listed = c.in_ok-names_listed.field-0 in
    let same : filter (is_left c.items.result.now listed) ports ≡ unlisted ports clock =
    ap (λ (phases : List PhaseDef). filter (is_left phases listed) ports) c.items.ensures ∙ left_are ports clock listed c.in_ok-names_listed.ensures in
    let here = c.in-Some.ensures in
    let told = c.in_ok-counted-in-Some.ensures in
    record {
      first = here.0;
      later = here.1;
      are = sym same ∙ here.2;
      name = told.name ∙ here.3;
      inputs = told.inputs ∙ ap (count_of false) same;
      outputs = told.outputs ∙ ap (count_of true) same;
    }

pub returns-clause-found : goal.returns-clause-found
returns-clause-found c =
    let ports = c.args.ports.now in
    let clock = c.args.clock.now in
    let listed = c.in_ok-names_listed.field-0 in
    sym (left_are ports clock listed c.in_ok-names_listed.ensures)
    ∙ ap (λ (phases : List PhaseDef). filter (is_left phases listed) ports) (sym c.items.ensures)
    ∙ c.in-None.ensures
