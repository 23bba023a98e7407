use Rattle.std.proofs.Common.{◌≡◌, ◌++◌, ℕ, ℤ, ◌+ℤ◌, ◌*ℤ◌, List, to_z, of_z, ap, ◌∙◌, sym, arith}
use Rattle.std.specs.Int.{w128}
use Rattle.std.proofs.lemmas.Int.{ints, to_z-of_z}
use Rattle.std.proofs.lemmas.Result.{on_ok_weaker}
use Rattle.mintc_timing.specs.Design.{element_at}
use Rattle.mintcx_chain.specs.declared.stages.Why.TheVariants.{Reach}
use Rattle.mintcx_reports.specs.Hops.{out_rows}
use Rattle.mintcx_reports.proofs.HopLaws.{path_hops}
use Rattle.mintcx_reports.proofs.hops.push_hops.Goals as goal

pub returns-in_ok-push_out-in-Reach-clause-ok : goal.returns-in_ok-push_out-in-Reach-clause-ok
returns-in_ok-push_out-in-Reach-clause-ok c =
    let design = c.args.told.now.flat.now in
    let s = c.args.told.now.schedule.now in
    let unit = c.args.told.now.unit in
    let begin = c.args.begin in
    let j = c.in-Reach.from in
    let l = c.in-Reach.to in
    let path = c.items.result.now in
    let old = c.args.table.now.rows in
    let low = c.out_at-out.ensures.low in
    let high = c.out_at-out.ensures.high in
    let time = c.requires.time in
    let read : to_z w128 (of_z w128 begin) ≡ begin = to_z-of_z w128 begin (omega (arith, ints, time.0, time.1)) in
    let out : to_z w128 (of_z w128 c.out_at-out.result) ≡ c.out_at-out.result = to_z-of_z w128 c.out_at-out.result (omega (arith, ints, time.0, time.1)) in
    on_ok_weaker c.push_arcs.result
    (λ e. path_hops design s c.args.told.now.cells.now unit begin (to_z w128 (of_z w128 c.out_at-out.result)) c.args.stage.now c.args.stage.now.why j l path
    old c.push_out.new.table.rows c.push_arcs.new.table.rows
    (c.in-Reach.is ∙ ap (Reach j l) (sym c.items.ensures))
    (c.in_ok-push_out-in-Reach.ensures.ok ∙ ap (λ (x : ℤ). old ++ out_rows design s unit j x) read)
    (out ∙ c.out_at-out.ensures.value ∙ ap (λ (x : ℤ). x +ℤ (element_at design j).dq_max *ℤ s.den) read) e)
    c.push_arcs.ensures.ok
