use Rattle.std.proofs.Common.{◌++◌, ℤ, ap, ◌∙◌, w64}
use Rattle.std.specs.Prelude.{codes}
use Rattle.std.proofs.lemmas.Int.{to_z-of_z}
use Rattle.std.proofs.lemmas.Result.{on_ok_weaker}
use Rattle.mintcx_sdc.specs.Times.{braced, time_text}
use Rattle.mintcx_sdc.proofs.WrittenLaws.{in_four}
use Rattle.mintcx_sdc.proofs.clocks.put_clock.Goals as goal

pub returns : goal.returns
returns c =
    let cycle = to_z-of_z w64 c.args.cycle c.ranges.cycle in
    on_ok_weaker c.put_time.result
    (λ e. in_four c.args.lines.now c.put.new.self c.put_braced.new.lines c.put-2.new.self c.put_time.new.lines
    (codes "create_clock -name ") (braced c.args.name.now) (codes " -period ") (time_text c.args.cycle)
    c.in_ok-put.ensures.ok c.in_ok-put_braced.ensures c.in_ok-put-2.ensures.ok
    (e ∙ ap (λ (x : ℤ). c.put-2.new.self ++ time_text x) cycle))
    c.put_time.ensures
