-- That each system has an optimum that keeps each hold.
use Rattle.mintc_timing.specs.Design.{Timing}
use Rattle.mintc_timing.specs.Limits.{IsDesign}
use Rattle.mintc_timing.specs.Order.{IsTiming}
use Rattle.mintc_safe.specs.declared.certificate.SafeCertificate.{SafeCertificate}
use Rattle.mintc_safe.specs.SafeOptimum.{IsSafeOptimum}

-- Each system has a safe certificate as `safe` gives it.
abbrev pub SafeOptimaExist : Type 0
SafeOptimaExist = (t : Timing) → IsDesign t.flat → IsTiming t.flat t.order t.pairs →
    (c : SafeCertificate) × IsSafeOptimum t c
