-- The first test in words: how many phases and elements a design has, and how many a certificate.
use Rattle.std.specs.Prelude.{ℕ, ℤ, ◌==◌, List, [], ◌∷◌, ◌++◌, codes, decimal, length, if◌then◌else◌}
use Rattle.mintc_text.specs.Lines.{ended}
use Rattle.mintc_timing.specs.declared.clocking.Schedule.{Schedule}
use Rattle.mintc_timing.specs.Design.{Design, phase_count, element_count}

-- what is counted, in the singular or the plural
abbrev pub counted_word : ℕ → List ℕ → List ℕ → List ℕ
counted_word n one many = if n == 1 then one else many

-- a number and what is counted
abbrev pub counted : ℕ → List ℕ → List ℕ → List ℕ
counted n one many = decimal n ++ 32 ∷ counted_word n one many

-- how many phases there are
abbrev pub phases_line : Design → Schedule → List ℕ
phases_line design s =
    codes "  the design has " ++ counted (phase_count design) (codes "phase") (codes "phases")
    ++ codes ", the certificate " ++ decimal (length s.starts)

-- how many elements and departures there are
abbrev pub departures_line : Design → List ℤ → List ℕ
departures_line design d =
    codes "  the design has " ++ counted (element_count design) (codes "element") (codes "elements")
    ++ codes ", the certificate " ++ counted (length d) (codes "departure") (codes "departures")

-- a line where two numbers differ
abbrev pub unlike : ℕ → ℕ → List ℕ → List ℕ
unlike m n line = if m == n then [] else ended line

-- how many phases there are, where the numbers differ
abbrev pub phases_text : Design → Schedule → List ℕ
phases_text design s = unlike (length s.starts) (phase_count design) (phases_line design s)

-- how many elements and departures there are, where the numbers differ
abbrev pub both_text : Design → List ℤ → List ℕ
both_text design d = unlike (length d) (element_count design) (departures_line design d)

-- those of the counts that differ
abbrev pub counts_text : Design → Schedule → List ℤ → List ℕ
counts_text design s d = phases_text design s ++ both_text design d
