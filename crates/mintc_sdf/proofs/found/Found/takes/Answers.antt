use Rattle.std.proofs.Common.{Some, sym, ap, ◌∙◌}
use Rattle.mintc_sdf.specs.Forms.{claim}
use Rattle.mintc_sdf.specs.Finding.{Finding, said}
use Rattle.mintc_sdf.proofs.KeepLaws.{keep-fault, no-fault, takes-by}
use Rattle.mintc_sdf.proofs.found.Found.takes.Goals as goal

pub returns-in-Some : goal.returns-in-Some
returns-in-Some c = λ s ns e.
    let sound = sym (ap (λ (f : Finding). f.fault) c.self.view_is) ∙ no-fault c.self.inside.fault c.if-is_some.ensures in
    ap (λ d. record { delays = d; fault = Some c.refusal_of.result }) (ap (λ (f : Finding). f.delays) c.self.view_is)
    ∙ ap (λ r. record { delays = c.args.self.now.delays; fault = Some r }) c.refusal_of.ensures
    ∙ sym (keep-fault c.args.self.now (said c.args.context.now (claim s ns)) c.args.sum.now c.in-Some.fault sound e c.in-Some.is)

pub returns : goal.returns
returns c =
    let sound = sym (ap (λ (f : Finding). f.fault) c.self.view_is) ∙ no-fault c.self.inside.fault c.if-is_some.ensures in
    takes-by c.args.context.now c.args.self.now c.args.sum.now sound c.in_default.is
