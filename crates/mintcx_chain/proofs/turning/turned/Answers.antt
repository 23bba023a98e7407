use Rattle.std.proofs.Common.{◌≡◌, ◌++◌, List, length, drop, take, ap, ◌∙◌, sym, subst, arith}
use Rattle.std.specs.Prelude.{All}
use Rattle.mintcx_chain.specs.declared.stages.Stage.{Stage}
use Rattle.mintcx_chain.specs.Names.{IsShort, IsStage}
use Rattle.mintcx_chain.specs.Turning.{IsBeginning, turned}
use Rattle.mintcx_chain.proofs.TurnedLaws.{All-turned, length-turned}
use Rattle.mintcx_chain.proofs.turning.turned.Goals as goal

pub returns : goal.returns
returns c =
    let design = c.args.flat.now in
    let d = c.args.departures.now in
    let stages = c.args.stages in
    let first = c.beginning-first.result in
    let begins : IsBeginning design d stages first = subst (λ (ks : List Stage). IsBeginning design d ks first) c.items.ensures c.beginning-first.ensures in
    let same : c.new.result ≡ turned first stages = c.new.ensures ∙ c.rotate_left.ensures.items ∙ ap (λ (ks : List Stage). drop first ks ++ take first ks) c.into_vec-items.ensures in
    record {
      turned = (first, begins, same);
      count = ap (λ (ks : List Stage). length ks) same ∙ length-turned first stages (let below = begins.there in omega arith);
      each = λ h. subst (All (IsStage design)) (sym same) (All-turned (IsStage design) first stages h);
      short = λ h. subst (All IsShort) (sym same) (All-turned IsShort first stages h);
    }
