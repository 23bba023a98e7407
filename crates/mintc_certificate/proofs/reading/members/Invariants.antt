use Rattle.std.proofs.Common.{ℕ, List, [], ◌-◌}
use Rattle.mintc_certificate.specs.declared.certificate.Certificate.{Certificate}
use Rattle.mintc_certificate.specs.CertificateReading.{with_chain}
use Rattle.mintc_certificate.specs.CertificateText.{link}
use Rattle.mintc_certificate.proofs.CertificateReading.{At}
use Rattle.mintc_certificate.proofs.reading.members.Given as goal

-- the lines so far gave these members
abbrev pub invariant-loop-member : goal.invariant-loop-member
invariant-loop-member l = (text : List ℕ) (c : Certificate) → At l.limits.members text l.initial.reader (link l.fn.version l.count (with_chain c [])) → At l.limits.members text l.reader (link l.fn.version (l.count - l._member) (with_chain c l.found.items))
