use Rattle.std.proofs.Common.{◌++◌, length, get_or, None, ap, ◌∙◌, arith}
use Rattle.mintc_sdf_edges.specs.Telling.{told_one}
use Rattle.mintc_sdf_edges.proofs.TellingLaws.{told-step, told-end}
use Rattle.mintc_sdf_edges.proofs.telling.tell.Goals as goal

pub returns : goal.returns
returns c =
    told-end c.args.delay.now c.args.edge (length c.args.spans.now) c.loop-place.place c.args.spans.now c.loop-place.found.items _ (omega (arith, c.loop-place-test.false)) c.loop-place.invariant

pub loop-place-preserved : goal.loop-place-preserved
loop-place-preserved c =
    told-step c.args.delay.now c.args.edge (length c.args.spans.now) c.loop-place.place c.args.spans.now c.loop-place.found.items _ _ c.loop-place-test.true c.loop-place.invariant
    (c.in_ok-tell_one.ensures ∙ ap (λ s. c.loop-place.found.items ++ told_one c.args.delay.now c.args.edge s (get_or c.args.spans.now c.loop-place.place None)) c.speaks.ensures)
