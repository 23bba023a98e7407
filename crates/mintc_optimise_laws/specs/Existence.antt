-- That each system has an optimum.
use Rattle.std.specs.Prelude.{◌≤◌, ◌+◌, length}
use Rattle.mintc_timing.specs.Design.{Timing, element_count}
use Rattle.mintc_timing.specs.Limits.{IsDesign}
use Rattle.mintc_timing.specs.Order.{IsTiming}
use Rattle.mintc_certificate.specs.declared.certificate.Certificate.{Certificate}
use Rattle.mintc_certificate.specs.Optimal.{IsOptimal}
use Rattle.mintc_certificate.specs.Ranges.{IsCertificateInRange}
use Rattle.mintc_certificate.specs.Valid.{IsValid, chain_of}
use Rattle.mintc_optimise.specs.Optimum.{HasEarliest, HasSimple}

-- What `optimise` gives: a valid certificate of the least cycle time, or one that no schedule is right, with the
-- earliest schedule, a chain that enters no node twice, and numbers that a text can say.
pub record IsBest (t : Timing) (certificate : Certificate) : Type 0 where
  pub valid : IsValid t certificate
  pub optimal : IsOptimal t certificate
  pub earliest : HasEarliest t certificate
  pub simple : HasSimple t certificate
  pub in_range : IsCertificateInRange certificate
  pub short : length (chain_of certificate) ≤ element_count t.flat + 17

-- Each system has such a certificate.
abbrev pub OptimaExist : Type 0
OptimaExist = (t : Timing) → IsDesign t.flat → IsTiming t.flat t.order t.pairs → (c : Certificate) × IsBest t c
