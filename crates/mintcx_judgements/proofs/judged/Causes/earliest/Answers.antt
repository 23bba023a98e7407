use Rattle.std.proofs.Common.{◌≡◌, ◌∙◌, sym, get_or, arith}
use Rattle.std.specs.Prelude.{None}
use Rattle.std.proofs.lemmas.List.{get_or_read}
use Rattle.mintcx_judgements.proofs.CauseLaws.{inside_some}
use Rattle.mintcx_judgements.proofs.judged.Causes.earliest.Goals as goal

pub returns : goal.returns
returns c =
    let causes = c.args.self.now in
    let read : c.index.result.now ≡ get_or causes.earliest.items c.args.element None =
    get_or_read causes.earliest.items c.args.element c.index.result.now (omega (arith, causes.earliest_are.count, c.requires)) c.index.ensures None in
    record {
      value = read ∙ causes.earliest_are.each c.args.element c.requires;
      inside = inside_some c.index.result.now _ (λ n e. causes.earliest_are.inside c.args.element n c.requires (sym read ∙ e));
    }
