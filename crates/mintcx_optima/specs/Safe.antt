-- The texts of the least cycle that keeps holds.
use Rattle.std.specs.Prelude.{◌≡◌, ℕ, ℤ, List, [], ◌∷◌, ◌++◌, map, codes}
use Rattle.mintc_fraction.specs.Ratio.{Ratio}
use Rattle.mintc_timing.specs.declared.clocking.Schedule.{Schedule}
use Rattle.mintc_timing.specs.Design.{Design}
use Rattle.mintc_timing.specs.Paths.{least_delay}
use Rattle.mintc_safe.specs.declared.certificate.SafeCertificate.{SafeCertificate}
use Rattle.mintc_safe.specs.declared.certificate.SafeCertificate.TheVariants.{Least, Never}
use Rattle.mintc_safe.specs.declared.members.SafeMember.{SafeMember}
use Rattle.mintc_safe.specs.declared.members.SafeMember.TheVariants as member
use Rattle.mintc_safe.specs.Hold.{hold_link}
use Rattle.mintcx_chain.specs.declared.stages.Stage.{Stage}
use Rattle.mintcx_chain.specs.declared.stages.Why.TheVariants.{Hold}
use Rattle.mintcx_chain.specs.Stages.{stage_of}
use Rattle.mintcx_chain.specs.Turning.{HasTurned}
use Rattle.mintcx_frame.specs.declared.view.View.{View}
use Rattle.mintcx_frame.specs.Ends.{time_text}
use Rattle.mintcx_amounts.specs.declared.unit.Unit.{Unit}
use Rattle.mintcx_optima.specs.Least.{cycle_text, unit_of}
use Rattle.mintcx_optima.specs.Never.{none_text}

-- the stage of the hold of element l, which element j feeds along a path
abbrev pub hold_stage : Design → ℕ → ℕ → List ℕ → Stage
hold_stage design j l path =
    record {
      from = (hold_link design 0 j l (least_delay design.arcs path)).from;
      to = (hold_link design 0 j l (least_delay design.arcs path)).to;
      delay = (hold_link design 0 j l (least_delay design.arcs path)).delay;
      cycles = (hold_link design 0 j l (least_delay design.arcs path)).cycles;
      why = Hold j l path;
    }

-- the stage that a member stands for
abbrev pub safe_stage : Design → SafeMember → Stage
safe_stage design (member.Plain m) = stage_of design m
safe_stage design (member.Hold j l path) = hold_stage design j l path

-- The stages are those of a chain, from its beginning by departures.
abbrev pub AreSafeStages : Design → List ℤ → List SafeMember → List Stage → Type 0
AreSafeStages design d chain stages = HasTurned design d (map (safe_stage design) chain) stages

-- what is kept, and which cycle time would do without holds
abbrev pub without_text : Ratio → Unit → List ℕ
without_text without unit = codes "keeping each hold, with each output as early as it can be; without holds "
    ++ time_text unit without ++ codes " would do" ++ 10 ∷ []

-- The text where a chain forbids every cycle time that keeps each hold.
abbrev pub IsSafeNeverOf : Design → List SafeMember → View → List ℕ → Type 0
IsSafeNeverOf design chain view text = (stages : List Stage) × AreSafeStages design [] chain stages
    × (text ≡ none_text (codes "no schedule keeps each hold") design stages view)

-- The text of a safe certificate: that of the least cycle that keeps each hold, after which the one without holds is
-- told, or that of the chain that forbids every cycle time.
abbrev pub IsSafeText : Design → SafeCertificate → Ratio → View → List ℕ → Type 0
IsSafeText design (Least s d chain) without view text = (stages : List Stage) × AreSafeStages design d chain stages
    × (text ≡ cycle_text (codes "safe") (without_text without (unit_of s view)) design s d stages view)
IsSafeText design (Never chain) without view text = IsSafeNeverOf design chain view text
