use Rattle.std.proofs.Common.{◌≡◌, ℤ, ◌+ℤ◌, ◌*ℤ◌, to_z, of_z, ap, ◌∙◌, arith}
use Rattle.std.specs.Int.{w64, w128}
use Rattle.std.proofs.lemmas.Int.{ints, clamps, to_z-of_z}
use Rattle.std.proofs.lemmas.Result.{on_ok_weaker}
use Rattle.mintcx_reports.specs.Hops.{rule_text}
use Rattle.mintcx_reports.proofs.HopLaws.{same_cells}
use Rattle.mintcx_reports.proofs.hops.push_rule.Goals as goal

pub returns-clause-ok : goal.returns-clause-ok
returns-clause-ok c =
    let s = c.args.told.now.schedule.now in
    let unit = c.args.told.now.unit in
    let stage = c.args.stage.now in
    let begin = c.args.begin in
    let time = c.requires.time in
    let short = c.requires.short.span in
    let span = c.over_den.ensures in
    let sum = to_z w128 (of_z w128 (to_z w128 (of_z w128 begin) +ℤ to_z w128 (of_z w128 c.over_den.result))) in
    let delay : to_z w64 (of_z w64 stage.delay) ≡ stage.delay = to_z-of_z w64 stage.delay (omega (arith, ints, short.0, short.1)) in
    let both : sum ≡ begin +ℤ c.over_den.result = omega (arith, ints, clamps, span.low, span.high, time.0, time.1) in
    let ends : sum ≡ begin +ℤ stage.delay *ℤ s.den = both ∙ ap (λ (x : ℤ). begin +ℤ x) (span.value ∙ ap (λ (x : ℤ). x *ℤ s.den) delay) in
    on_ok_weaker c.push_hop.result
    (λ e. same_cells s unit c.args.table.now.rows c.push_hop.new.table.rows
    (to_z w64 (of_z w64 stage.delay)) sum stage.delay (begin +ℤ stage.delay *ℤ s.den)
    c.bytes.result.now (rule_text c.args.told.now.flat.now stage c.args.kind)
    e delay ends (c.bytes.ensures ∙ c.in_ok-what.ensures))
    c.push_hop.ensures.ok
