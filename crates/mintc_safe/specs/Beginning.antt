-- Where the chain of a safe certificate begins.
use Rattle.mintc_timing.specs.Design.{Timing}
use Rattle.mintc_optimise.specs.Beginning.{BeginsFirst}
use Rattle.mintc_safe.specs.declared.certificate.SafeCertificate.{SafeCertificate}
use Rattle.mintc_safe.specs.declared.certificate.SafeCertificate.TheVariants.{Least, Never}
use Rattle.mintc_safe.specs.Hold.{safe_links_of}
use Rattle.mintc_safe.specs.SafeOptimum.{links_of_safe}

-- The chain begins with that of its members whose link comes first in the list of safe links.
abbrev pub HasSafeBeginning : Timing → SafeCertificate → Type 0
HasSafeBeginning t (Least schedule departures chain) = BeginsFirst (safe_links_of t) (links_of_safe t.flat chain)
HasSafeBeginning t (Never chain) = BeginsFirst (safe_links_of t) (links_of_safe t.flat chain)
