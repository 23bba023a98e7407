-- The table of violations.
use Rattle.std.specs.Prelude.{ℕ, ◌+◌, ℤ, List, [], ◌∷◌, ◌++◌, codes, decimal, map}
use Rattle.mintc_text.specs.Lines.{numeral_of, spaced}
use Rattle.mintc_text.specs.Signs.{space}
use Rattle.mintc_timing.specs.declared.violation.Broken.{Broken}
use Rattle.mintc_timing.specs.declared.violation.Broken.TheVariants as broken
use Rattle.mintc_timing.specs.declared.violation.Violation.{Violation}
use Rattle.mintc_timing.specs.Design.{Timing}
use Rattle.mintcx_frame.specs.Names.{element_name, phase_name}
use Rattle.mintcx_judgements.specs.Fails.{AreRanked, violation_at}
use Rattle.mintcx_judgements.specs.Sources.{from_of}
use Rattle.mintcx_csv.specs.Tables.{IsTable, shown_over}

-- the word of a kind
abbrev pub kind_word : Broken → List ℕ
kind_word (broken.Cycle p) = codes "cycle"
kind_word (broken.Order p) = codes "order"
kind_word (broken.Span p) = codes "span"
kind_word (broken.Width p) = codes "width"
kind_word (broken.Apart i j) = codes "apart"
kind_word (broken.Bound n) = codes "bound"
kind_word (broken.Loop ring) = codes "loop"
kind_word (broken.Setup l) = codes "setup"
kind_word (broken.Hold l) = codes "hold"

-- two names with a space between
abbrev pub both : List ℕ → List ℕ → List ℕ
both one other = one ++ space ∷ other

-- the elements round which data goes, from each pair of a loop the first, with a space between two
abbrev pub ring_text : Timing → List ℕ → List ℕ
ring_text t [] = []
ring_text t (n ∷ ring) = from_of t n ++ spaced (map (from_of t) ring)

-- what a violation is of: a phase, of an order and of phases to be apart both, a bound by its number, counted from 1,
-- the elements of a loop, or an element
abbrev pub of_text : Timing → Broken → List ℕ
of_text t (broken.Cycle p) = phase_name t.flat p
of_text t (broken.Order p) = both (phase_name t.flat p) (phase_name t.flat (p + 1))
of_text t (broken.Span p) = phase_name t.flat p
of_text t (broken.Width p) = phase_name t.flat p
of_text t (broken.Apart i j) = both (phase_name t.flat i) (phase_name t.flat j)
of_text t (broken.Bound n) = decimal (n + 1)
of_text t (broken.Loop ring) = ring_text t ring
of_text t (broken.Setup l) = element_name t.flat l
of_text t (broken.Hold l) = element_name t.flat l

-- the head line
abbrev pub fail_fields : List (List ℕ)
fail_fields = codes "kind" ∷ codes "of" ∷ codes "by" ∷ codes "den" ∷ []

-- the row of a violation: its kind, what it is of, and by how much it fails, in femtoseconds times den
abbrev pub fail_record : Timing → ℤ → Violation → List (List ℕ)
fail_record t den v =
    kind_word v.broken ∷ of_text t v.broken ∷ numeral_of v.amount ∷ numeral_of den ∷ []

-- the rows of violations, in the order of their places
abbrev pub fail_records : Timing → ℤ → List Violation → List (ℕ × ℤ × ℕ) → List (List (List ℕ))
fail_records t den vs places =
    shown_over den 3 fail_fields ∷
    map (λ (place : ℕ × ℤ × ℕ). shown_over den 3 (fail_record t den (violation_at vs place.2))) places

-- The text is the table of these violations: the rules of the clock and a loop as they stand, then the setups, then
-- the holds, of each kind the worst first.
abbrev pub IsFailTable : Timing → ℤ → List Violation → List ℕ → Type 0
IsFailTable t den vs text =
    (places : List (ℕ × ℤ × ℕ)) × AreRanked vs places × IsTable (fail_records t den vs places) text
