-- The answer of an optimum, as JSON.
use Rattle.std.specs.Prelude.{ℕ, ℤ, pos, List, [], ◌∷◌, ◌++◌, codes}
use Rattle.json.specs.Json.{Json}
use Rattle.mintc_timing.specs.declared.clocking.Schedule.{Schedule}
use Rattle.mintc_timing.specs.Design.{Design}
use Rattle.mintc_certificate.specs.declared.certificate.Certificate.{Certificate}
use Rattle.mintc_certificate.specs.declared.certificate.Certificate.TheVariants.{Least, Never}
use Rattle.mintc_certificate.specs.declared.members.Member.{Member}
use Rattle.mintcx_chain.specs.declared.stages.Stage.{Stage}
use Rattle.mintcx_optima.specs.Optimum.{AreStages}
use Rattle.mintcx_json.specs.Objects.{IsTextOf, head_fields, object_of, whole}
use Rattle.mintcx_json.specs.Clocks.{clock_fields}
use Rattle.mintcx_json.specs.Chains.{deciding_value, forbidding_value}

-- A least cycle time: the schedule that has it, and the chain that forbids every smaller one.
abbrev pub least_value : List ℕ → Design → Schedule → List ℤ → List Stage → List ℕ → Json
least_value command design s d stages subject = object_of (
    head_fields command 0 (codes "least") subject ++
    clock_fields design s d ++
    (codes "chain", deciding_value design s stages) ∷ [])

-- No schedule is right: the chain that forbids every cycle time, in whole femtoseconds.
abbrev pub never_value : List ℕ → Design → List Stage → List ℕ → Json
never_value command design stages subject = object_of (
    head_fields command 1 (codes "never") subject ++
    (codes "den", whole (pos 1)) ∷ (codes "chain", forbidding_value design stages) ∷ [])

-- The text is the object of a least cycle time, with the members of a chain from its beginning.
abbrev pub IsLeastObject : List ℕ → Design → Schedule → List ℤ → List Member → List ℕ → List ℕ → Type 0
IsLeastObject command design s d chain subject text = (stages : List Stage)
    × AreStages design d chain stages × IsTextOf (least_value command design s d stages subject) text

-- The same where a chain forbids every cycle time.
abbrev pub IsNeverObject : List ℕ → Design → List Member → List ℕ → List ℕ → Type 0
IsNeverObject command design chain subject text = (stages : List Stage)
    × AreStages design [] chain stages × IsTextOf (never_value command design stages subject) text

-- The text is the object of a certificate of a design that is called so: of a least cycle time, or of none.
abbrev pub IsOptimumObject : List ℕ → Design → Certificate → List ℕ → List ℕ → Type 0
IsOptimumObject command design (Least s d chain) subject text = IsLeastObject command design s d chain subject text
IsOptimumObject command design (Never chain) subject text = IsNeverObject command design chain subject text
