use Rattle.std.proofs.Common.{◌<◌, ◌^◌, rules, lit<}
use Rattle.std.proofs.Math.Nat.{one-le-pow}
use Rattle.std.proofs.lemmas.Int.{to_z-of_z}
use mir.Syntax.{w64}
use mir.Val.{SFits}
use Rattle.mintc_decimal.specs.Decimals.{under}
use Rattle.mintc_decimal.specs.DecimalValue.{value_of}
use Rattle.mintc_decimal.proofs.SharedRoundingLaws.{not_far, floor_is, ceiling_is}
use Rattle.mintc_decimal.proofs.decimal.Decimal.to_femto_both.Goals as goal

pub returns-clause-rounded : goal.returns-clause-rounded
returns-clause-rounded c =
    let down : SFits w64 c.rounded_down.result = search rules in
    let up : SFits w64 c.rounded_up.result = search rules in
    rw (to_z-of_z w64 c.rounded_down.result down, to_z-of_z w64 c.rounded_up.result up, c.rounded_down.ensures, c.rounded_up.ensures) (
      floor_is c.args.self.now.negative c.in_ok-whole.left _ _ c.in_ok-whole.whole (one-le-pow _ 10 (lit< tt)) c.in_ok-whole.ensures,
      ceiling_is c.args.self.now.negative c.in_ok-whole.left _ _ c.in_ok-whole.whole (one-le-pow _ 10 (lit< tt)) c.in_ok-whole.ensures,
    )

pub returns-clause-near : goal.returns-clause-near
returns-clause-near c = not_far _ _ c.in_ok-whole.whole c.in_ok-whole.left c.in_ok-whole.ensures
