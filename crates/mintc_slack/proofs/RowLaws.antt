-- Gaps in rows.
use Rattle.std.proofs.Common.{◌≡◌, ◌≢◌, ℕ, ◌<◌, ◌≤◌, ◌+◌, ◌-◌, ◌⊎◌, inl, inr, ℤ, pos, ◌+ℤ◌, ◌≤ℤ◌, List, length, get_or, arith, refl, ap, ◌∙◌, sym, subst, ⊎_elim, below_more}
use Rattle.std.proofs.lemmas.Int.{ints}
use Rattle.std.proofs.lemmas.Bool.{cases_eq, cases_lt}
use Rattle.std.proofs.lemmas.List.{get_or_default}
use Rattle.std.specs.List.{All}
use Rattle.mintc_graph_walks.specs.Walks.{value_at}
use Rattle.mintc_slack.specs.declared.reduced_costs.ReducedCost.{ReducedCost}
use Rattle.mintc_slack.specs.Gaps.{AreInRange, AreLeast, IsInside}
use Rattle.mintc_slack.specs.Rows.{AreInRows, IsInRow, IsNext, IsRowLeast, IsSooner, gap_at, row_at}
use Rattle.mintc_slack.proofs.GapLaws.{made}

-- the gap that the code reads
pub gap-read : (gaps : List ReducedCost) (place : ℕ) (g : ReducedCost) → place < length gaps → g ≡ get_or gaps place g → g ≡ gap_at gaps place
gap-read gaps place g below is = is ∙ get_or_default gaps place g (made 0 (pos 0) 0) below

-- which is inside with all
pub gap-inside : (count : ℕ) (gaps : List ReducedCost) (place : ℕ) (g : ReducedCost) → All (IsInside count) gaps → place < length gaps → g ≡ get_or gaps place g → IsInside count g
gap-inside count gaps place g all below is = subst (IsInside count) (sym (gap-read gaps place g below is)) (all place (made 0 (pos 0) 0) below)

-- one gap more in its row
module _ (gaps : List ReducedCost) (firsts : List ℕ) (place : ℕ) (before : (k : ℕ) → k < place → IsInRow gaps firsts k) where
  abbrev here : ReducedCost
  here = gap_at gaps place

  same : (k : ℕ) → k ≡ place → IsSooner (gap_at gaps k) here
  same k e = subst (λ (n : ℕ). IsSooner (gap_at gaps n) here) (sym e) (refl, omega (arith, ints))

  begins : row_at firsts here.from ≡ place → IsInRow gaps firsts place
  begins is = record { begun = omega (arith, is); sooner = λ k low high. same k (omega (arith, is)) }

  follows : row_at firsts here.from < place → IsSooner (gap_at gaps (place - 1)) here → IsInRow gaps firsts place
  follows less sooner = record {
    begun = omega arith;
    sooner = λ k low high. ⊎_elim
        (λ (e : k ≡ place). same k e)
        (λ (e : k ≡ place → ⊥).
        let last = before (place - 1) (omega arith) in
        let low' : row_at firsts (gap_at gaps (place - 1)).from ≤ k = subst (λ (n : ℕ). row_at firsts n ≤ k) (sym sooner.0) low in
        let s = last.sooner k low' (omega arith) in
        let rest = s.1 in
        let more = sooner.1 in
        (s.0 ∙ sooner.0, omega (arith, ints)))
        (cases_eq k place);
  }

  pub row-next : IsNext gaps firsts place → IsInRow gaps firsts place
  row-next next = ⊎_elim begins (λ h. follows h.0 h.1) next

  pub row-more : IsNext gaps firsts place → (k : ℕ) → k < place + 1 → IsInRow gaps firsts k
  row-more next = below_more (λ k. IsInRow gaps firsts k) place before (row-next next)

-- the test of one row
module _ (gaps : List ReducedCost) (firsts : List ℕ) (rows : AreInRows gaps firsts) (distances : List ℤ) (home : ℤ) (inside : All (IsInside (length distances)) gaps)
    (most : (node : ℕ) → node < length distances → value_at distances node ≤ℤ home)
  where
    abbrev IsTested : ℕ → Type 0
    IsTested k = value_at distances (gap_at gaps k).to ≤ℤ (value_at distances (gap_at gaps k).from +ℤ (gap_at gaps k).rest)

    inside-at : (k : ℕ) → k < length gaps → IsInside (length distances) (gap_at gaps k)
    inside-at k below = inside k (made 0 (pos 0) 0) below

    -- a row whose node is as far as home
    pub row-far : (node : ℕ) → home ≤ℤ value_at distances node → IsRowLeast gaps node distances
    row-far node far k below from =
        let in_k = inside-at k below in
        let to = most (gap_at gaps k).to in_k.to in
        let low = in_k.low in
        let same = ap (λ (n : ℕ). value_at distances n) from in
        omega (arith, ints)

    module _ (node place : ℕ) (begun : row_at firsts node ≤ place) (before : (k : ℕ) → k < place → (row_at firsts node ≤ k) → (gap_at gaps k).from ≡ node → IsTested k) where
      begun-at : (k : ℕ) → (gap_at gaps k).from ≡ node → row_at firsts (gap_at gaps k).from ≤ place
      begun-at k from = subst (λ (n : ℕ). row_at firsts n ≤ place) (sym from) begun

      pub row-by : ((k : ℕ) → place ≤ k → k < length gaps → (gap_at gaps k).from ≡ node → IsTested k) → IsRowLeast gaps node distances
      row-by behind k below from = ⊎_elim
          (λ (less : k < place). before k less (subst (λ (n : ℕ). row_at firsts n ≤ k) from (rows k below).begun) from)
          (λ (high : place ≤ k). behind k high below from)
          (cases_lt k place)

      pub row-ends : length gaps ≤ place → IsRowLeast gaps node distances
      row-ends end = row-by (λ k high below from. absurd (omega arith))

      -- a gap of another row
      pub row-left : (gap_at gaps place).from ≢ node → IsRowLeast gaps node distances
      row-left other = row-by (λ k high below from. absurd (other (((rows k below).sooner place (begun-at k from) high).0 ∙ from)))

      -- a gap that leads as far as home
      pub row-home : home ≤ℤ (value_at distances (gap_at gaps place).from +ℤ (gap_at gaps place).rest) → IsRowLeast gaps node distances
      row-home far = row-by (λ k high below from.
          let s = (rows k below).sooner place (begun-at k from) high in
          let same = ap (λ (n : ℕ). value_at distances n) s.0 in
          let rest = s.1 in
          let to = most (gap_at gaps k).to (inside-at k below).to in
          omega (arith, ints))

      pub row-on : IsTested place → (k : ℕ) → k < place + 1 → (row_at firsts node ≤ k) → (gap_at gaps k).from ≡ node → IsTested k
      row-on here = below_more (λ k. (row_at firsts node ≤ k) → (gap_at gaps k).from ≡ node → IsTested k) place before (λ low from. here)

-- and of all rows
pub rows-all : (gaps : List ReducedCost) (distances : List ℤ) → All (IsInside (length distances)) gaps → ((node : ℕ) → node < length distances → IsRowLeast gaps node distances) → AreLeast gaps distances
rows-all gaps distances inside each k d below =
    let g = inside k (made 0 (pos 0) 0) below in
    rw (get_or_default gaps k d (made 0 (pos 0) 0) below) (each (gap_at gaps k).from g.from k below refl)
