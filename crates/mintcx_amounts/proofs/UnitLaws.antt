-- The unit that suits a cycle time.
use Rattle.std.proofs.Common.{◌≡◌, pos, ◌*ℤ◌, ◌≤ℤ◌, ◌<ℤ◌, true, false, refl, arith}
use Rattle.std.specs.Prelude.{int_lt}
use Rattle.std.proofs.lemmas.Int.{ints}
use Rattle.mintc_fraction.specs.Ratio.{Ratio}
use Rattle.mintcx_amounts.specs.declared.unit.Unit.TheVariants.{Femto, Pico, Nano}
use Rattle.mintcx_amounts.specs.Units.{unit_of}

pub femto_is : (cycle : Ratio) → cycle.num <ℤ (pos 10000 *ℤ cycle.den) → unit_of cycle ≡ Femto
femto_is cycle h =
    let small : int_lt cycle.num (pos 10000 *ℤ cycle.den) ≡ true = grind (arith, ints) in
    rw small refl

pub pico_is : (cycle : Ratio) → (pos 10000 *ℤ cycle.den) ≤ℤ cycle.num → cycle.num <ℤ (pos 100000000 *ℤ cycle.den) → unit_of cycle ≡ Pico
pico_is cycle h g =
    let large : int_lt cycle.num (pos 10000 *ℤ cycle.den) ≡ false = grind (arith, ints) in
    let small : int_lt cycle.num (pos 100000000 *ℤ cycle.den) ≡ true = grind (arith, ints) in
    rw (large, small) refl

pub nano_is : (cycle : Ratio) → (pos 10000 *ℤ cycle.den) ≤ℤ cycle.num → (pos 100000000 *ℤ cycle.den) ≤ℤ cycle.num → unit_of cycle ≡ Nano
nano_is cycle h g =
    let large : int_lt cycle.num (pos 10000 *ℤ cycle.den) ≡ false = grind (arith, ints) in
    let larger : int_lt cycle.num (pos 100000000 *ℤ cycle.den) ≡ false = grind (arith, ints) in
    rw (large, larger) refl

pub ruleset cases = (femto_is, pico_is, nano_is)
