-- The lines that are written of a certificate.
use Rattle.std.specs.Prelude.{ℕ, ℤ, List, [], ◌∷◌, ◌++◌, length, map, codes}
use Rattle.mintc_text.specs.Lines.{words}
use Rattle.mintc_timing.specs.declared.clocking.Schedule.{Schedule}
use Rattle.mintc_timing_text.specs.LineForms.{number_line, count_line, schedule_lines}
use Rattle.mintc_certificate.specs.declared.members.Member.{Member}
use Rattle.mintc_certificate.specs.declared.certificate.Certificate.{Certificate}
use Rattle.mintc_certificate.specs.declared.certificate.Certificate.TheVariants.{Least, Never}
use Rattle.mintc_certificate.specs.CertificateText.{member_words}

-- the lines of departures, numerators over the schedule's denominator
abbrev pub departure_lines : List ℤ → List (List ℕ)
departure_lines ds = count_line (codes "departures") (length ds) ∷ map (number_line (codes "departure")) ds

-- the lines of a chain, and the last line
abbrev pub chain_lines : List Member → List (List ℕ)
chain_lines ms = count_line (codes "chain") (length ms) ∷ map (λ m. words (member_words m)) ms ++ codes "end" ∷ []

-- The lines of a certificate with a schedule in version 2: its one spelling there.
abbrev pub least_lines : Schedule → List ℤ → List Member → List (List ℕ)
least_lines schedule departures chain =
    codes "certificate 2" ∷ codes "least" ∷ schedule_lines schedule ++ departure_lines departures ++ chain_lines chain

-- the lines of a certificate without a schedule
abbrev pub never_lines : List Member → List (List ℕ)
never_lines chain = codes "certificate 2" ∷ codes "never" ∷ chain_lines chain

-- the lines of a certificate
abbrev pub lines_of : Certificate → List (List ℕ)
lines_of (Least schedule departures chain) = least_lines schedule departures chain
lines_of (Never chain) = never_lines chain
