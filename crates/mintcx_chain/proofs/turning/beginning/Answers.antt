use Rattle.std.proofs.Common.{◌+◌, ◌<◌, ℕ, length, take, sym, subst, rules}
use Rattle.std.proofs.lemmas.List.{take_all}
use Rattle.mintcx_chain.proofs.TurningLaws.{NoneSooner, one_further, sooner_there}
use Rattle.mintcx_chain.proofs.turning.beginning.Goals as goal

pub loop-at-preserved : goal.loop-at-preserved
loop-at-preserved c =
    let design = c.args.flat.now in
    let d = c.args.departures.now in
    let stages = c.args.stages.now in
    let at = c.loop-at.at in
    let first = c.loop-at.first in
    let below : at < length stages = search rules in
    record {
      there = subst (λ (n : ℕ). n < length stages) (sym c.sooner-first.ensures) (sooner_there design d stages first at c.loop-at.invariant.there below);
      first = subst (λ (n : ℕ). NoneSooner design d stages n (take (at + 1) stages)) (sym c.sooner-first.ensures) (one_further design d stages first at below c.loop-at.invariant.first);
    }

pub returns : goal.returns
returns c =
    let design = c.args.flat.now in
    let d = c.args.departures.now in
    let stages = c.args.stages.now in
    record {
      there = c.loop-at.invariant.there;
      first = subst (NoneSooner design d stages c.loop-at.first) (take_all c.loop-at.at stages c.loop-at-test.false) c.loop-at.invariant.first;
    }
