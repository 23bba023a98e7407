-- Where the chain of a corner certificate begins.
use Rattle.std.specs.Prelude.{List, [], ◌∷◌}
use Rattle.mintc_timing.specs.Design.{Timing}
use Rattle.mintc_optimise.specs.Beginning.{BeginsFirst}
use Rattle.mintc_corners.specs.declared.members.CornerMember.{CornerMember}
use Rattle.mintc_corners.specs.declared.certificate.CornerCertificate.{CornerCertificate}
use Rattle.mintc_corners.specs.declared.certificate.CornerCertificate.TheVariants.{Least, Never}
use Rattle.mintc_corners.specs.CornerOptimum.{links_of_corners}
use Rattle.mintc_corners.specs.Joined.{joined_links}

-- The chain begins with that of its members whose link comes first in the list of joint links, those of each corner
-- in turn; of no corners there is no chain.
abbrev pub BeginsJointly : List Timing → List CornerMember → Type 0
BeginsJointly [] chain = ⊥
BeginsJointly (t ∷ ts) chain = BeginsFirst (joined_links (t ∷ ts)) (links_of_corners t ts chain)

-- So does the chain of a certificate, of either kind.
abbrev pub HasJointBeginning : List Timing → CornerCertificate → Type 0
HasJointBeginning ts (Least schedule departures chain) = BeginsJointly ts chain
HasJointBeginning ts (Never chain) = BeginsJointly ts chain
