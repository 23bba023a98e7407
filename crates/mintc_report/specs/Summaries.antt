-- The text that answers `sample`: a summary of the design that a number gives.
use Rattle.std.specs.Prelude.{◌≡◌, ℕ, List, [], ◌∷◌, ◌++◌, length, codes, decimal}
use Rattle.mintc_text.specs.Lines.{ended, text_of, words}
use Rattle.mintc_timing.specs.declared.clocking.Schedule.{Schedule}
use Rattle.mintc_timing.specs.Design.{Timing, phase_count, element_count}
use Rattle.mintc_certificate.specs.declared.certificate.Certificate.{Certificate}
use Rattle.mintc_certificate.specs.declared.certificate.Certificate.TheVariants.{Least, Never}
use Rattle.mintc_report.specs.Answers.{IsWordOf}
use Rattle.mintc_report.specs.Reports.{cycle_line}

-- a line of a word and a count
abbrev pub count_line : List ℕ → ℕ → List ℕ
count_line word n = words (word ∷ decimal n ∷ [])

-- the number of a sample, and how many phases, elements, inner bits, arcs and pairs its design has
abbrev pub count_lines : ℕ → Timing → List (List ℕ)
count_lines number t =
    count_line (codes "sample") number ∷ count_line (codes "phases") (phase_count t.flat) ∷
    count_line (codes "elements") (element_count t.flat)
    ∷ count_line (codes "inner") (length t.flat.inner) ∷ count_line (codes "arcs") (length t.flat.arcs) ∷
    count_line (codes "pairs") (length t.pairs) ∷ []

-- The summary of a sample with this schedule: the counts, and the cycle time as a fraction in lowest terms.
pub record IsLeastSummary (number : ℕ) (t : Timing) (s : Schedule) (text : List ℕ) : Type 0 where
  pub cycle_word : List ℕ
  pub is_cycle : IsWordOf s.cycle s.den cycle_word
  pub whole : text ≡ text_of (count_lines number t ++ cycle_line cycle_word ∷ [])

-- The text of the summary of a certificate: without a schedule it is `never`.
abbrev pub IsSummaryText : ℕ → Timing → Certificate → List ℕ → Type 0
IsSummaryText number t (Least s d chain) text = IsLeastSummary number t s text
IsSummaryText number t (Never chain) text = text ≡ ended (codes "never")
