-- What the writers of a pass and of a fail append.
use Rattle.std.proofs.Common.{◌≡◌, ℕ, zero, suc, ◌+◌, ◌<◌, ℤ, List, [], ◌∷◌, ◌++◌, length, get_or, take, refl, ap, ◌∙◌, sym, arith, add-one, append_assoc, SFits, w64, to_z, of_z}
use Rattle.std.proofs.lemmas.Int.{to_z-of_z}
use Rattle.std.specs.Prelude.{codes, flat_map}
use Rattle.std.specs.List.{AllZip, range_with_len}
use Rattle.std.proofs.lemmas.Grind.{flat_map-append}
use Rattle.std.proofs.lemmas.List.{append-nil, take_more, get_or_default}
use Rattle.mintc_text.specs.Lines.{ended, text_of, words, fraction_word}
use Rattle.mintc_text.proofs.SharedLinesLaws.{text_of-push}
use Rattle.mintc_fraction.specs.Ratio.{Ratio}
use Rattle.mintc_timing.specs.declared.parts.Element.{Element}
use Rattle.mintc_timing.specs.declared.parts.Pair.{Pair}
use Rattle.mintc_timing.specs.declared.violation.Violation.{Violation}
use Rattle.mintc_timing.specs.Design.{no_element}
use Rattle.mintc_timing.specs.Departures.{departure}
use Rattle.mintc_report.specs.Answers.{IsLowestOf, IsWordOf, element_line, IsLineOfTwo, AreElementLines, AreViolationLines, broken_words, ring_of, reach_lines, AppendsLines, AppendsViolations}

-- ---- one more item, of lists that go with one another, and of numbers in a row

pub AllZip-more : {X Y : Type 0} (R : X → Y → Type 0) (xs : List X) (ys : List Y) (x : X) (y : Y) → AllZip R xs ys → R x y → AllZip R (xs ++ x ∷ []) (ys ++ y ∷ [])
AllZip-more R [] [] x y h g = (g, tt)
AllZip-more R [] (z ∷ ys) x y h g = absurd h
AllZip-more R (z ∷ xs) [] x y h g = absurd h
AllZip-more R (z ∷ xs) (w ∷ ys) x y h g = (h.0, AllZip-more R xs ys x y h.1 g)

pub range_more : (a n j : ℕ) → a + n ≡ j → range_with_len a (suc n) ≡ range_with_len a n ++ j ∷ []
range_more a zero j e = let same : a ≡ j = omega arith in ap (λ (k : ℕ). k ∷ []) same
range_more a (suc n) j e = ap (λ (v : List ℕ). a ∷ v) (range_more (a + 1) n j (omega arith))

-- ---- the elements of a pass

-- what `lowest` ensures of numbers that fit
pub lowest_as : (num den : ℤ) (f : Ratio) → SFits w64 num → SFits w64 den → IsLowestOf (to_z w64 (of_z w64 num)) (to_z w64 (of_z w64 den)) f → IsLowestOf num den f
lowest_as num den f num_fits den_fits h = rw (to_z-of_z w64 num num_fits, to_z-of_z w64 den den_fits) at h

pub IsWordOf-lowest : (num den : ℤ) (f : Ratio) → IsLowestOf num den f → IsWordOf num den (fraction_word f.num f.den)
IsWordOf-lowest num den f h = record { lowest = f; is_lowest = h; written = refl }

pub IsLineOfTwo-lowest : (line_of : List ℕ → List ℕ → List ℕ) (den x y : ℤ) (f g : Ratio) → IsLowestOf x den f → IsLowestOf y den g →
    IsLineOfTwo line_of den x y (line_of (fraction_word f.num f.den) (fraction_word g.num g.den))
IsLineOfTwo-lowest line_of den x y f g a b = record {
  first_word = fraction_word f.num f.den;
  second_word = fraction_word g.num g.den;
  is_first = IsWordOf-lowest x den f a;
  is_second = IsWordOf-lowest y den g b;
  written = refl;
}

-- one line more, of lines that go with numbers in a row
pub AppendsLines-more : (R : ℕ → List ℕ → Type 0) (a n j : ℕ) (old now new line : List ℕ) → a + n ≡ j →
    AppendsLines (AllZip R (range_with_len a n)) old now → R j line → new ≡ now ++ ended line →
    AppendsLines (AllZip R (range_with_len a (n + 1))) old new
AppendsLines-more R a n j old now new line e before is_line written =
    let numbers : range_with_len a (n + 1) ≡ range_with_len a n ++ j ∷ [] = rw add-one (range_more a n j e) in
    record {
      lines = before.lines ++ line ∷ [];
      are_lines = rw numbers (AllZip-more R (range_with_len a n) before.lines j line before.are_lines is_line);
      appended = written ∙ ap (λ v. v ++ ended line) before.appended ∙ append_assoc old _ _ ∙ ap (λ v. old ++ v) (sym (text_of-push before.lines line));
    }

-- the line of an element is appended to the lines of those before it
pub elements_more : (elements : List Element) (den : ℤ) (late early : List ℤ) (n : ℕ) (old now new name : List ℕ) (other : Element) (f g : Ratio) →
    AppendsLines (AreElementLines elements den late early n) old now → n < length elements → name ≡ (get_or elements n other).name →
    IsLowestOf (departure late n) den f → IsLowestOf (departure early n) den g →
    new ≡ now ++ ended (element_line name (fraction_word f.num f.den) (fraction_word g.num g.den)) →
    AppendsLines (AreElementLines elements den late early (n + 1)) old new
elements_more elements den late early n old now new name other f g before below is a b written =
    let same : name ≡ (get_or elements n no_element).name = is ∙ ap (λ (e : Element). e.name) (get_or_default elements n other no_element below) in
    AppendsLines-more _ 0 n n old now new _ (omega arith) before
    (IsLineOfTwo-lowest (element_line (get_or elements n no_element).name) den (departure late n) (departure early n) f g a b)
    (written ∙ ap (λ v. now ++ ended (element_line v (fraction_word f.num f.den) (fraction_word g.num g.den))) same)

-- ---- the violations of a fail

violation_written : (old broken amount ring begun first all : List ℕ) → begun ≡ old ++ broken →
    first ≡ begun ++ 32 ∷ ended (words (codes "by" ∷ amount ∷ [])) → all ≡ first ++ ring →
    all ≡ old ++ (ended (words (broken ∷ codes "by" ∷ amount ∷ [])) ++ ring)
violation_written old broken amount ring begun first all e f g = rw (g, f, e) (simp append_assoc)

-- a violation is appended as its constraint, its amount and its ring
pub violation-written : (pairs : List Pair) (den : ℤ) (violation : Violation) (f : Ratio) (old begun first all : List ℕ) →
    IsLowestOf violation.amount den f → begun ≡ old ++ broken_words violation.broken →
    first ≡ begun ++ 32 ∷ ended (words (codes "by" ∷ fraction_word f.num f.den ∷ [])) →
    all ≡ first ++ text_of (reach_lines pairs (ring_of violation.broken)) →
    AppendsLines (AreViolationLines pairs den violation) old all
violation-written pairs den violation f old begun first all h e g i = record {
  lines = words (broken_words violation.broken ∷ codes "by" ∷ fraction_word f.num f.den ∷ []) ∷ reach_lines pairs (ring_of violation.broken);
  are_lines = record { amount_word = fraction_word f.num f.den; is_amount = IsWordOf-lowest violation.amount den f h; written = refl };
  appended = violation_written old (broken_words violation.broken) (fraction_word f.num f.den) (text_of (reach_lines pairs (ring_of violation.broken))) begun first all e g i;
}

-- a violation is appended to the text of those before it
pub AppendsViolations-more : (pairs : List Pair) (den : ℤ) (violations : List Violation) (i : ℕ) (violation : Violation) (old now new : List ℕ) →
    AppendsViolations pairs den (take i violations) old now → i < length violations → violation ≡ get_or violations i violation →
    AppendsLines (AreViolationLines pairs den violation) now new → AppendsViolations pairs den (take (i + 1) violations) old new
AppendsViolations-more pairs den violations i violation old now new before below is h =
    let joined : flat_map text_of (before.answers ++ h.lines ∷ []) ≡ flat_map text_of before.answers ++ text_of h.lines =
    flat_map-append text_of before.answers (h.lines ∷ []) ∙ ap (λ v. flat_map text_of before.answers ++ v) (append-nil (text_of h.lines)) in
    rw (take_more violations i violation below, ← is) (record {
      answers = before.answers ++ h.lines ∷ [];
      each = AllZip-more _ (take i violations) before.answers violation h.lines before.each h.are_lines;
      appended = h.appended ∙ ap (λ v. v ++ text_of h.lines) before.appended ∙ append_assoc old _ _ ∙ ap (λ v. old ++ v) (sym joined);
    })
