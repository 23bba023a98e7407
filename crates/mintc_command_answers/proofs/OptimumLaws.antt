-- What `optimise` answers, `verify` calls valid.
use Rattle.std.proofs.Common.{◌≤◌, ℕ, List, length, refl, sym, subst, arith}
use Rattle.mintc_certificate.specs.CertificateText.{IsCertificateText}
use Rattle.mintc_certificate.specs.TextLaws.{WrittenAreTexts}
use Rattle.mintc_certificate.specs.Valid.{chain_of}
use Rattle.mintc_checker.specs.declared.verdict.Verdict.TheVariants.{Valid}
use Rattle.mintc_command_answers.specs.Laws.{OptimaAreVerified}

pub verify_answer : ((most : ℕ) → WrittenAreTexts most) → OptimaAreVerified
verify_answer read most limits t few file text status (c, optimum, s, e) =
    let short : length (chain_of c) ≤ most.members = omega (arith, optimum.short, few, limits.chains) in
    (c, subst (λ (x : List ℕ). IsCertificateText most.members x c) (sym e) (read most.members c optimum.in_range short), (Valid, optimum.valid, refl, refl))
