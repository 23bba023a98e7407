use Rattle.std.proofs.Common.{◌≡◌, ℕ, min, sym, ap, ◌∙◌, arith}
use Rattle.mintc_text.specs.declared.limits.TheConstants.{MOST_MEMBERS}
use Rattle.mintc_text.specs.declared.limits.Most.{Most}
use Rattle.mintc_certificate.proofs.reading.chain_line.Goals as goal

pub returns-clause-read : goal.returns-clause-read
returns-clause-read c =
    let value = ap (λ (m : Most). m.members) c.most-most.ensures.value in
    let kept = c.most-most.ensures.kept.members in
    let same : min c.args.limits.now.members MOST_MEMBERS ≡ c.most-most.result.members = omega (arith, value, kept) in
    rw same c.count_line.ensures.read
