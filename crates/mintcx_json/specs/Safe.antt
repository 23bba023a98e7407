-- The answer of an optimum that keeps each hold, as JSON.
use Rattle.std.specs.Prelude.{ℕ, ℤ, List, [], ◌∷◌, ◌++◌, codes}
use Rattle.json.specs.Json.{Json}
use Rattle.mintc_fraction.specs.Ratio.{Ratio}
use Rattle.mintc_timing.specs.declared.clocking.Schedule.{Schedule}
use Rattle.mintc_timing.specs.Design.{Design}
use Rattle.mintc_safe.specs.declared.certificate.SafeCertificate.{SafeCertificate}
use Rattle.mintc_safe.specs.declared.certificate.SafeCertificate.TheVariants.{Least, Never}
use Rattle.mintc_safe.specs.declared.members.SafeMember.{SafeMember}
use Rattle.mintcx_chain.specs.declared.stages.Stage.{Stage}
use Rattle.mintcx_optima.specs.Safe.{AreSafeStages}
use Rattle.mintcx_json.specs.Objects.{IsTextOf, head_fields, object_of}
use Rattle.mintcx_json.specs.Clocks.{clock_fields}
use Rattle.mintcx_json.specs.Chains.{deciding_value}
use Rattle.mintcx_json.specs.Optimum.{never_value}
use Rattle.mintcx_json.specs.Slacks.{time_fields}

-- A least cycle time that keeps each hold: the schedule that has it, the chain that forbids every smaller one, and
-- which cycle time would do without holds, over a denominator of its own.
abbrev pub safe_value : Design → Schedule → List ℤ → List Stage → Ratio → List ℕ → Json
safe_value design s d stages without subject = object_of (
    head_fields (codes "safe") 0 (codes "safe") subject ++
    clock_fields design s d ++
    (codes "chain", deciding_value design s stages) ∷ (codes "without", object_of (time_fields without)) ∷ [])

-- The text is the object of a least cycle time that keeps each hold, with the members of a chain from its beginning.
abbrev pub IsSafeLeastObject : Design → Schedule → List ℤ → List SafeMember → Ratio → List ℕ → List ℕ → Type 0
IsSafeLeastObject design s d chain without subject text = (stages : List Stage)
    × AreSafeStages design d chain stages × IsTextOf (safe_value design s d stages without subject) text

-- The same where a chain forbids every cycle time.
abbrev pub IsSafeNeverObject : Design → List SafeMember → List ℕ → List ℕ → Type 0
IsSafeNeverObject design chain subject text = (stages : List Stage)
    × AreSafeStages design [] chain stages × IsTextOf (never_value (codes "safe") design stages subject) text

-- The text is the object of a safe certificate of a design that is called so, beside the cycle time without holds.
abbrev pub IsSafeObject : Design → SafeCertificate → Ratio → List ℕ → List ℕ → Type 0
IsSafeObject design (Least s d chain) without subject text =
    IsSafeLeastObject design s d chain without subject text
IsSafeObject design (Never chain) without subject text = IsSafeNeverObject design chain subject text
