-- The text of an optimum.
use Rattle.std.specs.Prelude.{◌≡◌, ℕ, ℤ, List, [], map}
use Rattle.mintc_timing.specs.declared.clocking.Schedule.{Schedule}
use Rattle.mintc_timing.specs.Design.{Design}
use Rattle.mintc_certificate.specs.declared.certificate.Certificate.{Certificate}
use Rattle.mintc_certificate.specs.declared.certificate.Certificate.TheVariants.{Least, Never}
use Rattle.mintc_certificate.specs.declared.members.Member.{Member}
use Rattle.mintcx_chain.specs.declared.stages.Stage.{Stage}
use Rattle.mintcx_chain.specs.Stages.{stage_of}
use Rattle.mintcx_chain.specs.Turning.{HasTurned}
use Rattle.mintcx_frame.specs.declared.view.View.{View}
use Rattle.mintcx_optima.specs.Least.{least_text}
use Rattle.mintcx_optima.specs.Never.{never_text}

-- The stages are those of a chain, from its beginning by departures.
abbrev pub AreStages : Design → List ℤ → List Member → List Stage → Type 0
AreStages design d chain stages = HasTurned design d (map (stage_of design) chain) stages

-- The text of the least cycle time of a schedule, which a chain decides.
abbrev pub IsLeastOf : Design → Schedule → List ℤ → List Member → View → List ℕ → Type 0
IsLeastOf design s d chain view text = (stages : List Stage) × AreStages design d chain stages
    × (text ≡ least_text design s d stages view)

-- The text where a chain forbids every cycle time.
abbrev pub IsNeverOf : Design → List Member → View → List ℕ → Type 0
IsNeverOf design chain view text = (stages : List Stage) × AreStages design [] chain stages
    × (text ≡ never_text design stages view)

-- The text of a certificate: that of the least cycle with the chain that forbids every smaller one, or that of the
-- chain that forbids every cycle time.
abbrev pub IsOptimumText : Design → Certificate → View → List ℕ → Type 0
IsOptimumText design (Least s d chain) view text = IsLeastOf design s d chain view text
IsOptimumText design (Never chain) view text = IsNeverOf design chain view text
