-- The lines that texts are made of, one after another.
use Rattle.std.specs.Prelude.{ℕ, ℤ, List, [], ◌∷◌, ◌++◌, length, map, codes}
use Rattle.std.specs.List.{zip}
use Rattle.mintc_text.specs.Lines.{words, numeral_of}
use Rattle.mintc_timing.specs.declared.clocking.Schedule.{Schedule}
use Rattle.mintc_timing_text.specs.Fields.{number}

-- a line of a word and a number
abbrev pub number_line : List ℕ → ℤ → List ℕ
number_line word z = words (word ∷ numeral_of z ∷ [])

-- a line of a word and a count
abbrev pub count_line : List ℕ → ℕ → List ℕ
count_line word n = words (word ∷ number n ∷ [])

-- the line of a phase: its start and its width, numerators over the schedule's denominator
abbrev pub phase_line : ℤ × ℤ → List ℕ
phase_line p = words (codes "phase" ∷ numeral_of p.0 ∷ numeral_of p.1 ∷ [])

-- the lines of a schedule, as they stand in its own text and in a certificate
abbrev pub schedule_lines : Schedule → List (List ℕ)
schedule_lines s = number_line (codes "den") s.den ∷ number_line (codes "cycle") s.cycle ∷
    count_line (codes "phases") (length s.starts) ∷ map phase_line (zip s.starts s.widths)

-- all lines of a schedule's own text
abbrev pub schedule_text_lines : Schedule → List (List ℕ)
schedule_text_lines s = codes "schedule 1" ∷ schedule_lines s ++ codes "end" ∷ []
