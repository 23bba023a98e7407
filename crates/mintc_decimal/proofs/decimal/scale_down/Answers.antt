use Rattle.std.proofs.Common.{arith}
use Rattle.std.proofs.lemmas.Bool.Decides.{nat_tests}
use Rattle.mintc_decimal.proofs.DigitsLaws.{ten_to-le}
use Rattle.mintc_decimal.proofs.decimal.scale_down.Goals as goal

pub returns-then-power-gt38 : goal.returns-then-power-gt38
returns-then-power-gt38 c =
    let wide = ten_to-le 38 c.args.power (omega arith) in
    record { within = omega arith; low = omega arith; high = omega arith; rest = (λ h. grind (arith, nat_tests), λ h. grind (arith, nat_tests)); room = λ h. absurd (omega arith) }
