-- Answers have one text.
use Rattle.std.proofs.Common.{◌≡◌, ◌≤◌, ℕ, ℤ, pos, ◌≤ℤ◌, ◌*ℤ◌, List, [], ◌∷◌, ◌++◌, get_or, drop, decimal, refl, ap, ◌∙◌, sym, subst, arith}
use Rattle.std.specs.Prelude.{codes, flat_map}
use Rattle.std.specs.List.{AllZip}
use Rattle.std.proofs.lemmas.Fmt.{decimal_injective}
use Rattle.std.proofs.lemmas.List.{append_cancel_right}
use Rattle.mintc_text.specs.Lines.{ended, text_of, words, fraction_word}
use Rattle.mintc_fraction.proofs.SharedLowest.{IsLowest-unique}
use Rattle.mintc_fraction.proofs.SharedProducts.{swap-times, times-cancel_equal}
use Rattle.mintc_fraction.specs.Ratio.{Ratio}
use Rattle.mintc_timing.specs.declared.parts.Pair.{Pair}
use Rattle.mintc_timing.specs.declared.violation.Violation.{Violation}
use Rattle.mintc_timing.specs.Design.{Timing}
use Rattle.mintc_certificate.specs.declared.certificate.Certificate.{Certificate}
use Rattle.mintc_certificate.specs.declared.certificate.Certificate.TheVariants.{Least, Never}
use Rattle.mintc_checker.specs.declared.verdict.Verdict.{Verdict}
use Rattle.mintc_checker.specs.declared.verdict.Verdict.TheVariants.{Valid, Invalid}
use Rattle.mintc_checker.specs.Verdicts.{IsVerdict}
use Rattle.mintc_checker.proofs.SharedFirsts.{number-range}
use Rattle.mintc_report.specs.Answers.{IsWordOf, IsLineOfTwo, broken_words, ring_of, reach_lines, AreViolationLines}
use Rattle.mintc_report.specs.Reports.{verdict_text_of, cycle_line, late_line, IsLateLine, chain_lines, IsReportText}
use Rattle.mintc_report.specs.Summaries.{count_lines, IsSummaryText}
use Rattle.mintc_report.specs.Laws.{HasDenominator, AnswersAreDetermined}

-- two fractions of one value are equal
equal_values : (num den n d m e : ℤ) → pos 1 ≤ℤ den → n *ℤ den ≡ num *ℤ d → m *ℤ den ≡ num *ℤ e → n *ℤ e ≡ m *ℤ d
equal_values num den n d m e some h g = times-cancel_equal (n *ℤ e) (m *ℤ d) den some
    (swap-times n e den ∙ ap (λ v. v *ℤ e) h ∙ swap-times num d e ∙ ap (λ v. v *ℤ d) (sym g) ∙ swap-times m den d)

IsWordOf-unique : (num den : ℤ) (word other : List ℕ) → pos 1 ≤ℤ den → IsWordOf num den word → IsWordOf num den other → word ≡ other
IsWordOf-unique num den word other some a b =
    let f = a.lowest in let g = b.lowest in
    let value = equal_values num den f.num f.den g.num g.den some a.is_lowest.equal b.is_lowest.equal in
    let same : f ≡ g = IsLowest-unique f g a.is_lowest.positive b.is_lowest.positive a.is_lowest.reduced b.is_lowest.reduced value in
    a.written ∙ ap (λ (r : Ratio). fraction_word r.num r.den) same ∙ sym b.written

IsLineOfTwo-unique : (line_of : List ℕ → List ℕ → List ℕ) (den x y : ℤ) (line other : List ℕ) → pos 1 ≤ℤ den →
    IsLineOfTwo line_of den x y line → IsLineOfTwo line_of den x y other → line ≡ other
IsLineOfTwo-unique line_of den x y line other some a b =
    a.written
    ∙ ap (λ v. line_of v a.second_word) (IsWordOf-unique x den a.first_word b.first_word some a.is_first b.is_first)
    ∙ ap (λ v. line_of b.first_word v) (IsWordOf-unique y den a.second_word b.second_word some a.is_second b.is_second)
    ∙ sym b.written

AreViolationLines-unique : (pairs : List Pair) (den : ℤ) (violation : Violation) (lines others : List (List ℕ)) → pos 1 ≤ℤ den →
    AreViolationLines pairs den violation lines → AreViolationLines pairs den violation others → lines ≡ others
AreViolationLines-unique pairs den violation lines others some a b =
    a.written
    ∙ ap (λ (v : List ℕ). words (broken_words violation.broken ∷ codes "by" ∷ v ∷ []) ∷ reach_lines pairs (ring_of violation.broken))
    (IsWordOf-unique violation.amount den a.amount_word b.amount_word some a.is_amount b.is_amount)
    ∙ sym b.written

-- what goes with each item of a list is one list, where it is one item for each
AllZip-unique : {X Y : Type 0} (R : X → Y → Type 0) → ((x : X) (y z : Y) → R x y → R x z → y ≡ z) →
    (xs : List X) (ys zs : List Y) → AllZip R xs ys → AllZip R xs zs → ys ≡ zs
AllZip-unique R one [] [] [] h g = refl
AllZip-unique R one [] (y ∷ ys) zs h g = absurd h
AllZip-unique R one [] [] (z ∷ zs) h g = absurd g
AllZip-unique R one (x ∷ xs) [] zs h g = absurd h
AllZip-unique R one (x ∷ xs) (y ∷ ys) [] h g = absurd g
AllZip-unique R one (x ∷ xs) (y ∷ ys) (z ∷ zs) h g =
    let first = one x y z h.0 g.0 in
    let rest = AllZip-unique R one xs ys zs h.1 g.1 in
    cc

IsLateLine-unique : (den : ℤ) (name : List ℕ) (late : ℤ) (line other : List ℕ) → pos 1 ≤ℤ den →
    IsLateLine den name late line → IsLateLine den name late other → line ≡ other
IsLateLine-unique den name late line other some a b =
    a.written ∙ ap (late_line name) (IsWordOf-unique late den a.late_word b.late_word some a.is_late b.is_late) ∙ sym b.written

-- the lines of a report
report_lines : List (List ℕ) → List ℕ → List (List ℕ) → List (List ℕ) → List ℕ
report_lines rest time phases lates = text_of (cycle_line time ∷ phases ++ lates ++ rest)

report_one : (t : Timing) (certificate : Certificate) (text other : List ℕ) → HasDenominator certificate →
    IsReportText t.flat certificate text → IsReportText t.flat certificate other → text ≡ other
unfolding report_lines
report_one t (Least s d chain) text other some a b =
    let rest : List (List ℕ) = chain_lines t.flat chain in
    let time = IsWordOf-unique s.cycle s.den a.cycle_word b.cycle_word some a.is_cycle b.is_cycle in
    let phases = AllZip-unique _ (λ p line more h g. IsLineOfTwo-unique _ s.den _ _ line more some h g) _ a.phase_lines b.phase_lines a.phases b.phases in
    let lates = AllZip-unique _ (λ l line more h g. IsLateLine-unique s.den _ _ line more some h g) _ a.late_lines b.late_lines a.elements b.elements in
    a.whole
    ∙ ap (λ v. report_lines rest v a.phase_lines a.late_lines) time
    ∙ ap (λ v. report_lines rest b.cycle_word v a.late_lines) phases
    ∙ ap (λ v. report_lines rest b.cycle_word b.phase_lines v) lates
    ∙ sym b.whole
report_one t (Never chain) text other some a b = a ∙ sym b

summary_one : (number : ℕ) (t : Timing) (certificate : Certificate) (text other : List ℕ) → HasDenominator certificate →
    IsSummaryText number t certificate text → IsSummaryText number t certificate other → text ≡ other
summary_one number t (Least s d chain) text other some a b =
    a.whole
    ∙ ap (λ (v : List ℕ). text_of (count_lines number t ++ cycle_line v ∷ [])) (IsWordOf-unique s.cycle s.den a.cycle_word b.cycle_word some a.is_cycle b.is_cycle)
    ∙ sym b.whole
summary_one number t (Never chain) text other some a b = a ∙ sym b

-- the first byte of a verdict's text, and what comes after the word `invalid`
valid_first : (n : ℕ) → verdict_text_of Valid ≡ verdict_text_of (Invalid n) → ⊥
valid_first n e = let first : 118 ≡ 105 = ap (λ (v : List ℕ). get_or v 0 0) e in omega (arith, first)

same_test : (m n : ℕ) → m ≤ 7 → n ≤ 7 → verdict_text_of (Invalid m) ≡ verdict_text_of (Invalid n) → m ≡ n
same_test m n small little e =
    let rest : decimal m ++ 10 ∷ [] ≡ decimal n ++ 10 ∷ [] = ap (drop 8) e in
    decimal_injective m n (omega arith) (omega arith) (append_cancel_right (decimal m) (decimal n) (10 ∷ []) rest)

verdict_one : (t u : Timing) (certificate another : Certificate) (v w : Verdict) → IsVerdict t certificate v → IsVerdict u another w →
    verdict_text_of v ≡ verdict_text_of w → v ≡ w
verdict_one t u certificate another Valid Valid h g e = refl
verdict_one t u certificate another Valid (Invalid n) h g e = absurd (valid_first n e)
verdict_one t u certificate another (Invalid m) Valid h g e = absurd (valid_first m (sym e))
verdict_one t u certificate another (Invalid m) (Invalid n) h g e =
    ap Invalid (same_test m n (subst (λ k. k ≤ 7) h.1 (number-range h.0).1) (subst (λ k. k ≤ 7) g.1 (number-range g.0).1) e)

pub answers_are_determined_lem : AnswersAreDetermined
answers_are_determined_lem = record {
  pass = λ t s late early text other some a b.
      a.whole
      ∙ ap (λ (v : List (List ℕ)). text_of (codes "pass" ∷ v))
      (AllZip-unique _ (λ l line more h g. IsLineOfTwo-unique _ s.den _ _ line more some h g) _ a.lines b.lines a.elements b.elements)
      ∙ sym b.whole;
  fail = λ t s violations text other some a b.
      a.whole
      ∙ ap (λ (v : List (List (List ℕ))). ended (codes "fail") ++ flat_map text_of v)
      (AllZip-unique _ (λ violation lines more h g. AreViolationLines-unique t.pairs s.den violation lines more some h g) violations a.answers b.answers a.each b.each)
      ∙ sym b.whole;
  report = report_one;
  summary = summary_one;
  verdict = verdict_one;
}
