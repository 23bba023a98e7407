-- The tables of chains.
use Rattle.std.specs.Prelude.{ℕ, ℤ, ◌*ℤ◌, List, [], ◌∷◌, length, map, codes}
use Rattle.std.specs.Prelude.{decimal}
use Rattle.std.specs.List.{range_with_len}
use Rattle.mintc_text.specs.Lines.{numeral_of}
use Rattle.mintc_timing.specs.declared.clocking.Schedule.{Schedule}
use Rattle.mintc_timing.specs.Design.{Design}
use Rattle.mintc_certificate.specs.declared.certificate.Certificate.{Certificate}
use Rattle.mintc_certificate.specs.declared.certificate.Certificate.TheVariants.{Least, Never}
use Rattle.mintc_certificate.specs.declared.members.Member.{Member}
use Rattle.mintcx_frame.specs.Names.{node_name}
use Rattle.mintcx_chain.specs.declared.rows.Row.{Row}
use Rattle.mintcx_chain.specs.declared.stages.Stage.{Stage}
use Rattle.mintcx_chain.specs.Names.{from_name}
use Rattle.mintcx_chain.specs.Rows.{rows_of}
use Rattle.mintcx_chain.specs.Turning.{stage_at}
use Rattle.mintcx_optima.specs.Optimum.{AreStages}
use Rattle.mintcx_optima.specs.Tables.{row_of}
use Rattle.mintcx_csv.specs.Tables.{IsTable, shown_over}

-- the head line of a chain that decides a least cycle
abbrev pub chain_fields : List (List ℕ)
chain_fields =
    codes "cycle" ∷ codes "from" ∷ codes "at" ∷ codes "borrows" ∷ codes "delay" ∷ codes "to" ∷ codes "den" ∷ []

-- The row of a stage: the cycle in which it begins, counted from 1, what it begins at, when, what the latch there
-- borrows, its delay, and what it leads to. Its times are femtoseconds times den, which stands last.
abbrev pub chain_record : Design → ℤ → Row → Stage → List (List ℕ)
chain_record design den row stage =
    decimal row.cycle ∷ from_name design stage ∷ numeral_of row.at ∷ numeral_of row.borrows ∷
    numeral_of (stage.delay *ℤ den) ∷ node_name design stage.to ∷ numeral_of den ∷ []

-- the row of stage n
abbrev pub chain_record_at : Design → ℤ → List Row → List Stage → ℕ → List (List ℕ)
chain_record_at design den rows stages n =
    shown_over den 6 (chain_record design den (row_of rows n) (stage_at stages n))

-- the rows of the stages of a chain by a schedule with its departures
abbrev pub chain_records : Design → Schedule → List ℤ → List Stage → List (List (List ℕ))
chain_records design s d stages =
    shown_over s.den 6 chain_fields ∷
    map (chain_record_at design s.den (rows_of design s d stages) stages) (range_with_len 0 (length stages))

-- the head line of a chain that forbids
abbrev pub hop_fields : List (List ℕ)
hop_fields = codes "from" ∷ codes "delay" ∷ codes "cycles" ∷ codes "to" ∷ []

-- the row of a stage: what it begins at, how many femtoseconds it asks for in how many cycles, and what it leads to
abbrev pub hop_record : Design → Stage → List (List ℕ)
hop_record design stage =
    from_name design stage ∷ numeral_of stage.delay ∷ decimal stage.cycles ∷ node_name design stage.to ∷ []

-- the rows of its stages
abbrev pub hop_records : Design → List Stage → List (List (List ℕ))
hop_records design stages = hop_fields ∷ map (hop_record design) stages

-- The text is the table of the members of a chain, from its beginning, that decides the least cycle of a schedule.
abbrev pub IsLeastTable : Design → Schedule → List ℤ → List Member → List ℕ → Type 0
IsLeastTable design s d chain text =
    (stages : List Stage) × AreStages design d chain stages × IsTable (chain_records design s d stages) text

-- The same of a chain that forbids every cycle time.
abbrev pub IsNeverTable : Design → List Member → List ℕ → Type 0
IsNeverTable design chain text =
    (stages : List Stage) × AreStages design [] chain stages × IsTable (hop_records design stages) text

-- The text is the table of the chain of a certificate: of that which decides the least cycle, or of that which forbids
-- every cycle time.
abbrev pub IsOptimumTable : Design → Certificate → List ℕ → Type 0
IsOptimumTable design (Least s d chain) text = IsLeastTable design s d chain text
IsOptimumTable design (Never chain) text = IsNeverTable design chain text
