use Rattle.std.proofs.Common.{List, subst, sym}
use Rattle.std.proofs.lemmas.Result.{IfOk-weaker}
use Rattle.mintc_timing.specs.Design.{Design}
use Rattle.mintcx_chain.specs.declared.stages.Stage.{Stage}
use Rattle.mintcx_draw.specs.Drawings.{IsDrawnChain, IsLeastDrawn}
use Rattle.std.specs.Prelude.{All}
use Rattle.mintcx_draw.specs.Parts.{IsCounted}
use Rattle.mintcx_draw.proofs.ChainLaws.{counted_of}
use Rattle.mintcx_draw.proofs.drawing.least_drawn.Goals as goal

pub drawn_of-requires-clause-counted : goal.drawn_of-requires-clause-counted
drawn_of-requires-clause-counted c =
    let least = c.args.least.now in
    subst (All IsCounted) (sym c.items.ensures)
    (counted_of c.args.system.now.flat least.departures.now least.members.now c.in_ok-stages.stages c.requires.chain.each c.in_ok-stages.ensures.stages)

pub returns : goal.returns
returns c =
    let least = c.args.least.now in
    let flat = c.args.system.now.flat in
    let of = λ (v : Design). IsDrawnChain v least.schedule.now least.departures.now in
    IfOk-weaker c.drawn_of.result (of c.flat.result.now c.items.result.now) (IsLeastDrawn flat least.schedule.now least.departures.now least.members.now)
    (λ drawn h. (
      c.in_ok-stages.stages,
      c.in_ok-stages.ensures.stages,
      subst (λ (v : List Stage). of flat v drawn) c.items.ensures (subst (λ (v : Design). of v c.items.result.now drawn) c.flat.ensures.value h),
    ))
    c.drawn_of.ensures
