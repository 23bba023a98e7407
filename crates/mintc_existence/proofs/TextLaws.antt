-- Passes and fails have texts, since each number has a word.
use Rattle.std.proofs.Common.{ℕ, ◌-◌, ℤ, pos, ◌≤ℤ◌, List, [], ◌∷◌, ◌++◌, refl}
use Rattle.std.specs.Prelude.{codes, flat_map, slice_index_or}
use Rattle.std.specs.List.{AllZip, range_with_len}
use Rattle.mintc_text.specs.Lines.{ended, text_of, words, fraction_word}
use Rattle.mintc_fraction.specs.Ratio.{over}
use Rattle.mintc_fraction_laws.proofs.SharedReducing.{fractions_reduce_lem}
use Rattle.mintc_timing.specs.declared.parts.Pair.{Pair}
use Rattle.mintc_timing.specs.declared.violation.Violation.{Violation}
use Rattle.mintc_timing.specs.Clocking.{start_of, width_of}
use Rattle.mintc_timing.specs.Departures.{departure}
use Rattle.mintc_timing.specs.Design.{element_count, no_element, phase_count}
use Rattle.mintc_certificate.specs.declared.certificate.Certificate.TheVariants.{Least, Never}
use Rattle.mintc_report.specs.Answers.{AreViolationLines, IsLineOfTwo, IsWordOf, broken_words, element_line, reach_lines, ring_of}
use Rattle.mintc_report.specs.Reports.{IsLateLine, chain_lines, cycle_line, late_line, phase_line}
use Rattle.mintc_report.specs.Summaries.{count_lines}
use Rattle.mintc_existence.specs.Answers.{FailsHaveTexts, FractionsHaveLowestTerms, PassesHaveTexts, ReportsHaveTexts, SummariesHaveTexts}

pub fractions_have_lowest_terms_lem : FractionsHaveLowestTerms
fractions_have_lowest_terms_lem num den some =
    let lowest = fractions_reduce_lem (over num den) some in
    (lowest.0, record { positive = lowest.1.positive; reduced = lowest.1.reduced; equal = lowest.1.equal })

word_of : (num den : ℤ) → pos 1 ≤ℤ den → (word : List ℕ) × IsWordOf num den word
word_of num den some =
    let lowest = fractions_have_lowest_terms_lem num den some in
    (fraction_word lowest.0.num lowest.0.den, record { lowest = lowest.0; is_lowest = lowest.1; written = refl })

line_of_two : (line_of : List ℕ → List ℕ → List ℕ) (den x y : ℤ) → pos 1 ≤ℤ den → (line : List ℕ) × IsLineOfTwo line_of den x y line
line_of_two line_of den x y some =
    let first = word_of x den some in
    let second = word_of y den some in
    (line_of first.0 second.0, record { first_word = first.0; second_word = second.0; is_first = first.1; is_second = second.1; written = refl })

violation_lines : (pairs : List Pair) (den : ℤ) (v : Violation) → pos 1 ≤ℤ den → (lines : List (List ℕ)) × AreViolationLines pairs den v lines
violation_lines pairs den v some =
    let amount = word_of v.amount den some in (
      words (broken_words v.broken ∷ codes "by" ∷ amount.0 ∷ []) ∷ reach_lines pairs (ring_of v.broken),
      record { amount_word = amount.0; is_amount = amount.1; written = refl },
    )

-- what goes with each item of a list, where something goes with each item
zip_some : {X Y : Type 0} (R : X → Y → Type 0) → ((x : X) → (y : Y) × R x y) → (xs : List X) → (ys : List Y) × AllZip R xs ys
zip_some R some [] = ([], tt)
zip_some R some (x ∷ xs) =
    let one = some x in
    let rest = zip_some R some xs in
    (one.0 ∷ rest.0, (one.1, rest.1))

pub passes_have_texts_lem : PassesHaveTexts
passes_have_texts_lem design s late early some =
    let found = zip_some (λ (l : ℕ). IsLineOfTwo (element_line (slice_index_or design.elements l no_element).name) s.den (departure late l) (departure early l))
    (λ l. line_of_two (element_line (slice_index_or design.elements l no_element).name) s.den (departure late l) (departure early l) some)
    (range_with_len 0 (element_count design)) in
    (text_of (codes "pass" ∷ found.0), record { lines = found.0; elements = found.1; whole = refl })

pub fails_have_texts_lem : FailsHaveTexts
fails_have_texts_lem t s violations some =
    let found = zip_some (AreViolationLines t.pairs s.den) (λ v. violation_lines t.pairs s.den v some) violations in
    (ended (codes "fail") ++ flat_map text_of found.0, record { answers = found.0; each = found.1; whole = refl })

late_line_of : (den : ℤ) (name : List ℕ) (late : ℤ) → pos 1 ≤ℤ den → (line : List ℕ) × IsLateLine den name late line
late_line_of den name late some =
    let word = word_of late den some in
    (late_line name word.0, record { late_word = word.0; is_late = word.1; written = refl })

pub reports_have_texts_lem : ReportsHaveTexts
reports_have_texts_lem design (Least s d chain) h =
    let some = h.schedule_in.den.0 in
    let cycle = word_of s.cycle s.den some in
    let phases = zip_some (λ (p : ℕ). IsLineOfTwo (phase_line (slice_index_or design.phases (p - 1) [])) s.den (start_of s p) (width_of s p))
    (λ p. line_of_two (phase_line (slice_index_or design.phases (p - 1) [])) s.den (start_of s p) (width_of s p) some) (range_with_len 1 (phase_count design)) in
    let elements = zip_some (λ (l : ℕ). IsLateLine s.den (slice_index_or design.elements l no_element).name (departure d l))
    (λ l. late_line_of s.den (slice_index_or design.elements l no_element).name (departure d l) some) (range_with_len 0 (element_count design)) in (
      text_of (cycle_line cycle.0 ∷ phases.0 ++ elements.0 ++ chain_lines design chain),
      record { cycle_word = cycle.0; phase_lines = phases.0; late_lines = elements.0; is_cycle = cycle.1; phases = phases.1; elements = elements.1; whole = refl },
    )
reports_have_texts_lem design (Never chain) h = (text_of (codes "never" ∷ chain_lines design chain), refl)

pub summaries_have_texts_lem : SummariesHaveTexts
summaries_have_texts_lem number t (Least s d chain) h =
    let cycle = word_of s.cycle s.den h.schedule_in.den.0 in
    (text_of (count_lines number t ++ cycle_line cycle.0 ∷ []), record { cycle_word = cycle.0; is_cycle = cycle.1; whole = refl })
summaries_have_texts_lem number t (Never chain) h = (ended (codes "never"), refl)
