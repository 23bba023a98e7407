use Rattle.std.proofs.Common.{◌++◌, ◌∷◌, []}
use Rattle.std.specs.Prelude.{codes}
use Rattle.std.proofs.lemmas.Result.{on_ok_weaker}
use Rattle.mintcx_frame.specs.Ends.{time_text}
use Rattle.mintcx_optima.proofs.WrittenLaws.{in_two, with_end}
use Rattle.mintcx_optima.proofs.safe.put_without.Goals as goal

pub returns : goal.returns
returns c =
    let old = c.args.lines.now in
    let time = time_text c.args.unit c.args.without.now in
    let kept = codes "keeping each hold, with each output as early as it can be; without holds " in
    let begun = in_two old c.put.new.self c.put_time.new.lines kept time c.in_ok-put.ensures.ok c.in_ok-put_time.ensures in
    on_ok_weaker c.put-2.result
    (λ e. with_end old c.put_time.new.lines c.put-2.new.self (kept ++ time) (codes " would do") (10 ∷ []) begun e)
    c.put-2.ensures.ok
