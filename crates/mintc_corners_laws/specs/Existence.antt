-- That a few systems have a joint optimum.
use Rattle.std.specs.Prelude.{◌≤◌, List, length, flat_map}
use Rattle.mintc_text.specs.declared.limits.TheConstants.{MOST_ELEMENTS}
use Rattle.mintc_timing.specs.Design.{Timing}
use Rattle.mintc_corners.specs.CornerOptimum.{IsOptimumOf}
use Rattle.mintc_corners.specs.Joint.{AreCorners}
use Rattle.mintc_corners.specs.Laws.{AreSystems}
use Rattle.mintc_corners.specs.declared.certificate.CornerCertificate.{CornerCertificate}

-- One to four systems that differ in numbers alone, with few elements together, have a certificate as `corners` gives
-- it.
abbrev pub JointOptimaExist : Type 0
JointOptimaExist = (systems : List Timing) → length systems ≤ 4 → AreCorners systems →
    length (flat_map (λ t. t.flat.elements) systems) ≤ MOST_ELEMENTS → AreSystems systems →
    (c : CornerCertificate) × IsOptimumOf systems c
