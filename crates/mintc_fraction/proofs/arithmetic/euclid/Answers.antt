use Rattle.std.proofs.Common.{◌<◌, arith}
use Rattle.std.proofs.Math.Nat.{mod-lt}
use Rattle.std.proofs.lemmas.Nat.Gcd.{IsGcd-from_mod, IsGcd-from_zero}
use Rattle.mintc_fraction.proofs.Dividing.{first_product, turn_halves, none_left}
use Rattle.mintc_fraction.proofs.arithmetic.euclid.Goals as goal

pub loop-turn-init : goal.loop-turn-init
loop-turn-init c =
    let some : 0 < c.args.y = omega arith in
    (IsGcd-from_mod c.args.x c.args.y, mod-lt c.args.x some, first_product c.args.x c.args.y some c.requires.few)

pub returns-then-b-eq0 : goal.returns-then-b-eq0
returns-then-b-eq0 c = c.loop-turn.invariant.0 _ (IsGcd-from_zero c.loop-turn.a c.loop-turn.b (omega arith))

pub loop-turn-preserved : goal.loop-turn-preserved
loop-turn-preserved c =
    let some : 0 < c.loop-turn.b = omega arith in (
      λ g h. c.loop-turn.invariant.0 g (IsGcd-from_mod c.loop-turn.a c.loop-turn.b g h),
      mod-lt c.loop-turn.a some,
      turn_halves c.loop-turn.a c.loop-turn.b c.loop-turn.turn _ c.loop-turn.invariant.1 some c.loop-turn.invariant.2,
    )

pub returns : goal.returns
returns c =
    c.loop-turn.invariant.0 _ (IsGcd-from_zero c.loop-turn.a c.loop-turn.b
    (none_left c.loop-turn.a c.loop-turn.b c.loop-turn.turn (omega arith) c.loop-turn.invariant.1 c.loop-turn.invariant.2))
