-- What two optima of one timing share: all but their chains.
use Rattle.std.specs.Prelude.{◌≡◌, ◌≤◌, List, length, flat_map}
use Rattle.mintc_text.specs.declared.limits.TheConstants.{MOST_ELEMENTS}
use Rattle.mintc_timing.specs.Design.{Timing}
use Rattle.mintc_timing.specs.Limits.{IsDesign}
use Rattle.mintc_timing.specs.Paths.{HasEnds}
use Rattle.mintc_certificate.specs.declared.certificate.Certificate.{Certificate}
use Rattle.mintc_certificate.specs.declared.certificate.Certificate.TheVariants.{Least, Never}
use Rattle.mintc_safe.specs.declared.certificate.SafeCertificate.{SafeCertificate}
use Rattle.mintc_safe.specs.declared.certificate.SafeCertificate.TheVariants as kept
use Rattle.mintc_safe.specs.SafeOptimum.{IsSafeOptimum}
use Rattle.mintc_corners.specs.declared.certificate.CornerCertificate.{CornerCertificate}
use Rattle.mintc_corners.specs.declared.certificate.CornerCertificate.TheVariants as joint
use Rattle.mintc_corners.specs.CornerOptimum.{IsOptimumOf}
use Rattle.mintc_corners.specs.Joint.{AreCorners}
use Rattle.mintc_corners.specs.Laws.{AreSystems}
use Rattle.mintc_command_answers.specs.Jobs.{IsOptimum}

-- The certificates have one schedule, and so one cycle time, and the same departures; or both say that there is none.
-- Only their chains may differ.
abbrev pub DifferInChain : Certificate → Certificate → Type 0
DifferInChain (Least schedule departures chain) (Least other others another) = (schedule ≡ other)
    × (departures ≡ others)
DifferInChain (Never chain) (Never another) = Unit {0}
DifferInChain c d = ⊥

-- the same of certificates that keep each hold
abbrev pub SafeDifferInChain : SafeCertificate → SafeCertificate → Type 0
SafeDifferInChain (kept.Least schedule departures chain) (kept.Least other others another) = (schedule ≡ other)
    × (departures ≡ others)
SafeDifferInChain (kept.Never chain) (kept.Never another) = Unit {0}
SafeDifferInChain c d = ⊥

-- and of those of corners, with the departures of each
abbrev pub JointlyDifferInChain : CornerCertificate → CornerCertificate → Type 0
JointlyDifferInChain (joint.Least schedule departures chain) (joint.Least other others another) = (schedule ≡ other)
    × (departures ≡ others)
JointlyDifferInChain (joint.Never chain) (joint.Never another) = Unit {0}
JointlyDifferInChain c d = ⊥

-- Two optima of one timing differ in their chains alone.
abbrev pub OptimaAreDetermined : Type 0
OptimaAreDetermined = (t : Timing) (c d : Certificate) → IsDesign t.flat → HasEnds t → IsOptimum t c → IsOptimum t d →
    DifferInChain c d

-- So do two that keep each hold,
abbrev pub SafeOptimaAreDetermined : Type 0
SafeOptimaAreDetermined = (t : Timing) (c d : SafeCertificate) → IsDesign t.flat → HasEnds t → IsSafeOptimum t c →
    IsSafeOptimum t d → SafeDifferInChain c d

-- and two of the same corners: up to four systems that differ in numbers alone, with few elements together.
abbrev pub JointOptimaAreDetermined : Type 0
JointOptimaAreDetermined = (ts : List Timing) (c d : CornerCertificate) → AreCorners ts → AreSystems ts →
    length ts ≤ 4 → length (flat_map (λ t. t.flat.elements) ts) ≤ MOST_ELEMENTS → IsOptimumOf ts c →
    IsOptimumOf ts d → JointlyDifferInChain c d
