-- The tables of what there is at a cycle time.
use Rattle.std.specs.Prelude.{ℕ, ℤ, List, [], ◌∷◌, codes, map}
use Rattle.std.specs.List.{range_with_len}
use Rattle.mintc_text.specs.Lines.{numeral_of}
use Rattle.mintc_timing.specs.declared.clocking.Schedule.{Schedule}
use Rattle.mintc_timing.specs.Clocking.{start_of, width_of}
use Rattle.mintc_timing.specs.Design.{Design, phase_count}
use Rattle.mintcx_frame.specs.Names.{phase_name}
use Rattle.mintcx_cycles.specs.declared.cycles.AtCycle.{AtCycle}
use Rattle.mintcx_cycles.specs.declared.cycles.AtCycle.TheVariants.{Right, Short}
use Rattle.mintcx_csv.specs.Chains.{IsNeverTable}
use Rattle.mintcx_csv.specs.Tables.{IsTable, shown_over}

-- the head line of a schedule
abbrev pub phase_fields : List (List ℕ)
phase_fields = codes "phase" ∷ codes "start" ∷ codes "width" ∷ codes "den" ∷ []

-- the row of a phase: its name, when it starts, and how wide it is, in femtoseconds times den
abbrev pub phase_record : Design → Schedule → ℕ → List (List ℕ)
phase_record design s p =
    phase_name design p ∷ numeral_of (start_of s p) ∷ numeral_of (width_of s p) ∷ numeral_of s.den ∷ []

-- the row of a phase, as it is shown
abbrev pub shown_phase : Design → Schedule → ℕ → List (List ℕ)
shown_phase design s p = shown_over s.den 3 (phase_record design s p)

-- the rows of all phases, in order
abbrev pub phase_records : Design → Schedule → List (List (List ℕ))
phase_records design s =
    shown_over s.den 3 phase_fields ∷ map (shown_phase design s) (range_with_len 1 (phase_count design))

-- The text is the table of what there is at a cycle time: of the phases of its earliest right schedule, or of the chain
-- that forbids it, from its beginning.
abbrev pub IsCycleTable : Design → AtCycle → List ℕ → Type 0
IsCycleTable design (Right s d) text = IsTable (phase_records design s) text
IsCycleTable design (Short chain) text = IsNeverTable design chain text
