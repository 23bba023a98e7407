-- What an element borrows, in words.
use Rattle.std.proofs.Common.{◌≡◌, zero, suc, true, nat_lt, ℤ, pos, negsuc, ◌≤ℤ◌, ◌++◌, refl, arith}
use Rattle.std.specs.Prelude.{codes}
use Rattle.std.proofs.lemmas.Bool.Decides.{nat_tests}
use Rattle.std.proofs.lemmas.Int.{ints}
use Rattle.mintc_timing.specs.declared.clocking.Schedule.{Schedule}
use Rattle.mintcx_amounts.specs.declared.unit.Unit.{Unit}
use Rattle.mintcx_draw.specs.Notes.{lent_text}
use Rattle.mintcx_chart.specs.Words.{moment_text}

pub lent_is : (s : Schedule) (unit : Unit) (borrows : ℤ) → pos 1 ≤ℤ borrows → lent_text s unit borrows ≡ codes ", borrows " ++ moment_text unit s.den borrows
lent_is s unit (pos zero) some = absurd (omega (arith, ints, some))
lent_is s unit (pos (suc n)) some = let yes : nat_lt 0 (suc n) ≡ true = grind (arith, nat_tests) in rw yes refl
lent_is s unit (negsuc n) some = absurd (omega (arith, ints, some))
