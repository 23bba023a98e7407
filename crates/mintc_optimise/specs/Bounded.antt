-- A design that no schedule is right for has a bound.
use Rattle.std.specs.Prelude.{◌≡◌, ◌≢◌, ℤ, pos, ◌≤ℤ◌, List, []}
use Rattle.mintc_timing.specs.declared.clocking.Schedule.{Schedule}
use Rattle.mintc_timing.specs.declared.link.Link.{Link}
use Rattle.mintc_timing.specs.Design.{Design, Timing}
use Rattle.mintc_timing.specs.Limits.{IsDesign}
use Rattle.mintc_timing.specs.Links.{links_of, IsChain, cycles_of, delay_of}
use Rattle.mintc_timing.specs.Order.{IsTiming}
use Rattle.mintc_timing.specs.Right.{IsRight, IsHopeless}
use Rattle.mintc_ratio.specs.declared.searching.Outcome.{Outcome}
use Rattle.mintc_ratio.specs.declared.searching.Outcome.TheVariants as outcome
use Rattle.mintc_certificate.specs.declared.certificate.Certificate.{Certificate}
use Rattle.mintc_certificate.specs.declared.certificate.Certificate.TheVariants as certificate

-- A system without bounds has a right schedule.
abbrev pub UnboundedHasRight : Type 0
UnboundedHasRight = (t : Timing) → IsDesign t.flat → IsTiming t.flat t.order t.pairs → t.flat.bounds ≡ [] →
    (s : Schedule) × (d : List ℤ) × IsRight t s d

-- So where no schedule is right, there is a bound.
abbrev pub NeverNeedsABound : Type 0
NeverNeedsABound = (t : Timing) → IsDesign t.flat → IsTiming t.flat t.order t.pairs → IsHopeless t → t.flat.bounds ≢ []

-- Without bounds a chain of links that has no cycle takes no time.
abbrev pub UnboundedChainsTakeNothing : Type 0
UnboundedChainsTakeNothing = (t : Timing) (chain : List Link) → IsDesign t.flat → IsTiming t.flat t.order t.pairs →
    t.flat.bounds ≡ [] → IsChain (links_of t) chain → cycles_of chain ≡ pos 0 → delay_of chain ≤ℤ pos 0

-- Where the answer is "never", the design has a bound.
abbrev pub NeverOnlyWithBounds : Design → Outcome → Type 0
NeverOnlyWithBounds design (outcome.Least cycle) = Unit {0}
NeverOnlyWithBounds design outcome.Never = design.bounds ≢ []

-- the same of a certificate
abbrev pub CertifiesNeverOnlyWithBounds : Design → Certificate → Type 0
CertifiesNeverOnlyWithBounds design (certificate.Least schedule departures chain) = Unit {0}
CertifiesNeverOnlyWithBounds design (certificate.Never chain) = design.bounds ≢ []
