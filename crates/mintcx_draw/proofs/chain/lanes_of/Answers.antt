use Rattle.std.proofs.Common.{◌+◌, refl, arith}
use Rattle.mintcx_draw.proofs.LaneLaws.{all_of_first, all_with_again}
use Rattle.mintcx_draw.proofs.chain.lanes_of.Goals as goal

pub returns-then-staged-gt-SHOWN : goal.returns-then-staged-gt-SHOWN
returns-then-staged-gt-SHOWN c =
    let told = c.args.told.now in
    let staged = c.args.staged.now in
    all_of_first told.flat.now told.schedule.now staged.stages.now staged.rows.now c.in_ok-shown.shown
    (record { lanes = c.in_ok-shown.shown.lanes; below = c.in_ok-shown.shown.below + 24 })
    c.in_ok-shown.ensures (omega (arith, c.if-staged-gt-SHOWN.true)) refl refl

pub returns : goal.returns
returns c =
    let told = c.args.told.now in
    let staged = c.args.staged.now in
    all_with_again told.flat.now told.schedule.now staged.stages.now staged.rows.now c.in_ok-shown.shown c.push_again.new.shown
    c.in_ok-shown.ensures (omega (arith, c.if-staged-gt-SHOWN.false)) c.in_ok-push_again.ensures
