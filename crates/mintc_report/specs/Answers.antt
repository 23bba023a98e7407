-- The texts that answer `check`: a pass with its departures, and a fail with its violations.
use Rattle.std.specs.Prelude.{◌≡◌, ◌<◌, ℕ, ℤ, List, [], ◌∷◌, ◌++◌, length, map, flat_map, slice_index_or, All, codes}
use Rattle.std.specs.Prelude.{decimal}
use Rattle.std.specs.List.{AllZip, range_with_len}
use Rattle.mintc_text.specs.Lines.{ended, text_of, words, numeral_of, fraction_word}
use Rattle.mintc_fraction.specs.Ratio.{Ratio, over, IsFraction, IsEqual, IsLowest}
use Rattle.mintc_timing.specs.declared.parts.Element.{Element}
use Rattle.mintc_timing.specs.declared.parts.Pair.{Pair}
use Rattle.mintc_timing.specs.declared.clocking.Schedule.{Schedule}
use Rattle.mintc_timing.specs.declared.violation.Broken.{Broken}
use Rattle.mintc_timing.specs.declared.violation.Broken.TheVariants as broken
use Rattle.mintc_timing.specs.declared.violation.Violation.{Violation}
use Rattle.mintc_timing.specs.Design.{Design, Timing, element_count, no_element, no_pair}
use Rattle.mintc_timing.specs.Departures.{departure}

-- num / den in lowest terms
pub record IsLowestOf (num den : ℤ) (lowest : Ratio) : Type 0 where
  pub positive : IsFraction lowest
  pub reduced : IsLowest lowest
  pub equal : IsEqual lowest (over num den)

-- the word of num / den: that of its lowest terms
pub record IsWordOf (num den : ℤ) (word : List ℕ) : Type 0 where
  pub lowest : Ratio
  pub is_lowest : IsLowestOf num den lowest
  pub written : word ≡ fraction_word lowest.num lowest.den

-- A line with two numbers over a denominator, each as the word of its lowest terms.
pub record IsLineOfTwo (line_of : List ℕ → List ℕ → List ℕ) (den first second : ℤ) (line : List ℕ) : Type 0 where
  pub first_word : List ℕ
  pub second_word : List ℕ
  pub is_first : IsWordOf first den first_word
  pub is_second : IsWordOf second den second_word
  pub written : line ≡ line_of first_word second_word

-- An element with its late and its early departure, which count femtoseconds times the denominator.
abbrev pub element_line : List ℕ → List ℕ → List ℕ → List ℕ
element_line name late early = words (codes "element" ∷ name ∷ codes "late" ∷ late ∷ codes "early" ∷ early ∷ [])

-- the line of each of the first n elements, in order
abbrev pub AreElementLines : List Element → ℤ → List ℤ → List ℤ → ℕ → List (List ℕ) → Type 0
AreElementLines elements den late early n lines =
    AllZip (λ l. IsLineOfTwo (element_line (slice_index_or elements l no_element).name) den (departure late l)
    (departure early l)) (range_with_len 0 n) lines

-- The text of a pass with these departures: `pass`, and the line of each element.
pub record IsPassText (design : Design) (s : Schedule) (late early : List ℤ) (text : List ℕ) : Type 0 where
  pub lines : List (List ℕ)
  pub elements : AreElementLines design.elements s.den late early (element_count design) lines
  pub whole : text ≡ text_of (codes "pass" ∷ lines)

-- A broken constraint in words. A loop has the number of its pairs.
abbrev pub broken_words : Broken → List ℕ
broken_words (broken.Cycle p) = words (codes "violated" ∷ codes "cycle" ∷ decimal p ∷ [])
broken_words (broken.Order p) = words (codes "violated" ∷ codes "order" ∷ decimal p ∷ [])
broken_words (broken.Span p) = words (codes "violated" ∷ codes "span" ∷ decimal p ∷ [])
broken_words (broken.Width p) = words (codes "violated" ∷ codes "width" ∷ decimal p ∷ [])
broken_words (broken.Apart i j) = words (codes "violated" ∷ codes "apart" ∷ decimal i ∷ decimal j ∷ [])
broken_words (broken.Bound b) = words (codes "violated" ∷ codes "bound" ∷ decimal b ∷ [])
broken_words (broken.Loop ring) = words (codes "loop" ∷ decimal (length ring) ∷ [])
broken_words (broken.Setup l) = words (codes "violated" ∷ codes "setup" ∷ decimal l ∷ [])
broken_words (broken.Hold l) = words (codes "violated" ∷ codes "hold" ∷ decimal l ∷ [])

-- the pairs of a loop, by their numbers
abbrev pub ring_of : Broken → List ℕ
ring_of (broken.Cycle p) = []
ring_of (broken.Order p) = []
ring_of (broken.Span p) = []
ring_of (broken.Width p) = []
ring_of (broken.Apart i j) = []
ring_of (broken.Bound b) = []
ring_of (broken.Loop ring) = ring
ring_of (broken.Setup l) = []
ring_of (broken.Hold l) = []

-- the line of a pair of a loop: the elements that it leads from and to
abbrev pub reach_line : Pair → List ℕ
reach_line pair = words (codes "reach" ∷ decimal pair.from ∷ decimal pair.to ∷ [])

-- the lines of the pairs of a loop, by their numbers
abbrev pub reach_lines : List Pair → List ℕ → List (List ℕ)
reach_lines pairs ring = map (λ n. reach_line (slice_index_or pairs n no_pair)) ring

-- The lines of a violation: the constraint and by how much it fails, and after a loop each of its pairs.
pub record AreViolationLines (pairs : List Pair) (den : ℤ) (violation : Violation)
    (lines : List (List ℕ)) : Type 0 where
  pub amount_word : List ℕ
  pub is_amount : IsWordOf violation.amount den amount_word
  pub written : lines ≡ words (broken_words violation.broken ∷ codes "by" ∷ amount_word ∷ []) ∷
      reach_lines pairs (ring_of violation.broken)

-- The text of a fail with these violations: `fail`, and the lines of each violation.
pub record IsFailText (t : Timing) (s : Schedule) (violations : List Violation) (text : List ℕ) : Type 0 where
  pub answers : List (List (List ℕ))
  pub each : AllZip (AreViolationLines t.pairs s.den) violations answers
  pub whole : text ≡ ended (codes "fail") ++ flat_map text_of answers

-- The pairs of each loop are among so many.
abbrev pub NamePairs : ℕ → List Violation → Type 0
NamePairs count violations = All (λ v. All (λ n. n < count) (ring_of v.broken)) violations

-- ---- what the writers of these texts append to the text so far

-- lines of which the claim holds
pub record AppendsLines (Are : List (List ℕ) → Type 0) (old new : List ℕ) : Type 0 where
  pub lines : List (List ℕ)
  pub are_lines : Are lines
  pub appended : new ≡ old ++ text_of lines

-- the lines of each violation
pub record AppendsViolations (pairs : List Pair) (den : ℤ) (violations : List Violation)
    (old new : List ℕ) : Type 0 where
  pub answers : List (List (List ℕ))
  pub each : AllZip (AreViolationLines pairs den) violations answers
  pub appended : new ≡ old ++ flat_map text_of answers
