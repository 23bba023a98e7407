-- The tables of the chains of optima that keep each hold.
use Rattle.std.specs.Prelude.{ℕ, ℤ, List, []}
use Rattle.mintc_timing.specs.declared.clocking.Schedule.{Schedule}
use Rattle.mintc_timing.specs.Design.{Design}
use Rattle.mintc_safe.specs.declared.certificate.SafeCertificate.{SafeCertificate}
use Rattle.mintc_safe.specs.declared.certificate.SafeCertificate.TheVariants.{Least, Never}
use Rattle.mintc_safe.specs.declared.members.SafeMember.{SafeMember}
use Rattle.mintcx_chain.specs.declared.stages.Stage.{Stage}
use Rattle.mintcx_optima.specs.Safe.{AreSafeStages}
use Rattle.mintcx_csv.specs.Chains.{chain_records, hop_records}
use Rattle.mintcx_csv.specs.Tables.{IsTable}

-- The text is the table of the members of a chain, from its beginning, that decides the least cycle of a schedule.
abbrev pub IsSafeLeastTable : Design → Schedule → List ℤ → List SafeMember → List ℕ → Type 0
IsSafeLeastTable design s d chain text =
    (stages : List Stage) × AreSafeStages design d chain stages × IsTable (chain_records design s d stages) text

-- The same of a chain that forbids every cycle time.
abbrev pub IsSafeNeverTable : Design → List SafeMember → List ℕ → Type 0
IsSafeNeverTable design chain text =
    (stages : List Stage) × AreSafeStages design [] chain stages × IsTable (hop_records design stages) text

-- The text is the table of the chain of a safe certificate.
abbrev pub IsSafeTable : Design → SafeCertificate → List ℕ → Type 0
IsSafeTable design (Least s d chain) text = IsSafeLeastTable design s d chain text
IsSafeTable design (Never chain) text = IsSafeNeverTable design chain text
