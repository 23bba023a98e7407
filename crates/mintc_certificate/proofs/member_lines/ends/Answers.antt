use Rattle.std.proofs.Common.{◌∷◌, arith}
use Rattle.mintc_timing_text.specs.Fields.{number}
use Rattle.mintc_certificate.proofs.member_lines.ends.Goals as goal

pub returns-in_err-to : goal.returns-in_err-to
returns-in_err-to c =
    rw c.from_residual-in_err-to.ensures (λ from to count more first second few some e. let told = c.in_ok-from.ensures.2 in c.in_err-to.ensures to (number count ∷ more) (omega arith) second cc)
