use Rattle.std.proofs.Common.{◌≡◌, ◌++◌, ℤ, List, to_z, of_z, ap, ◌∙◌, arith}
use Rattle.std.specs.Prelude.{codes}
use Rattle.std.specs.Int.{w64, w128}
use Rattle.std.proofs.lemmas.Int.{ints, to_z-of_z}
use Rattle.std.proofs.lemmas.Result.{on_ok_weaker}
use Rattle.mintc_timing.specs.declared.parts.TimingArc.{TimingArc}
use Rattle.mintc_timing.specs.Design.{no_arc}
use Rattle.mintc_timing.specs.Paths.{arc_at}
use Rattle.mintcx_chain.specs.Gates.{gate_of}
use Rattle.mintcx_reports.specs.Hops.{arc_text}
use Rattle.mintcx_reports.proofs.HopLaws.{same_hop}
use Rattle.mintcx_reports.proofs.hops.push_arc.Goals as goal

pub returns-clause-ok : goal.returns-clause-ok
returns-clause-ok c =
    let design = c.args.told.now.flat.now in
    let s = c.args.told.now.schedule.now in
    let unit = c.args.told.now.unit in
    let n = c.args.number in
    let ends = c.args.ends in
    let time = c.requires.time in
    let max = (c.arcs.ensures.kept.each_arc n no_arc c.requires.arc).max in
    let delay : to_z w64 (of_z w64 (arc_at c.arcs.result.now n).max) ≡ (arc_at design.arcs n).max =
    ap (λ (xs : List TimingArc). to_z w64 (of_z w64 (arc_at xs n).max)) c.arcs.ensures.value
    ∙ to_z-of_z w64 (arc_at design.arcs n).max (omega (arith, ints, max.0, max.1)) in
    on_ok_weaker c.push_some.result
    (λ e. same_hop s unit c.args.table.now.rows c.push_some.new.table.rows
    (to_z w64 (of_z w64 (arc_at c.arcs.result.now n).max)) (to_z w128 (of_z w128 ends)) (arc_at design.arcs n).max ends
    c.bytes.result.now (codes "  " ++ arc_text design c.args.told.now.cells.now c.args.element n (gate_of design n))
    e delay (to_z-of_z w128 ends (omega (arith, ints, time.0, time.1))) (c.bytes.ensures ∙ c.in_ok-what.ensures))
    c.push_some.ensures.ok
