-- What a valid certificate claims.
use Rattle.mintc_certificate.specs.declared.certificate.Certificate.{Certificate}
use Rattle.mintc_certificate.specs.declared.certificate.Certificate.TheVariants.{Least, Never}
use Rattle.mintc_timing.specs.Design.{Timing}
use Rattle.mintc_timing.specs.Limits.{IsDesign}
use Rattle.mintc_timing.specs.Paths.{ArePairs}
use Rattle.mintc_timing.specs.Right.{IsRight, IsLeastCycle, IsHopeless}
use Rattle.mintc_certificate.specs.Valid.{IsValid}

-- The certificate's schedule is right and its cycle is the least; or, where it has none, no schedule is right.
abbrev pub IsOptimal : Timing → Certificate → Type 0
IsOptimal t (Least schedule departures chain) = IsRight t schedule departures
    × IsLeastCycle t schedule.cycle schedule.den
IsOptimal t (Never chain) = IsHopeless t

-- Whatever is valid is optimal.
abbrev pub ValidIsOptimal : Type 0
ValidIsOptimal = (t : Timing) (certificate : Certificate) → IsDesign t.flat → ArePairs t.flat t.pairs →
    IsValid t certificate → IsOptimal t certificate
