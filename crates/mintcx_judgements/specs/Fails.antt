-- The text of a fail.
use Rattle.std.specs.Prelude.{◌≡◌, ◌==◌, ◌<◌, ℕ, ℤ, pos, neg_ℤ, List, [], ◌∷◌, ◌++◌, codes, decimal}
use Rattle.std.specs.Prelude.{map, flat_map, length, slice_index_or, if◌then◌else◌}
use Rattle.std.specs.List.{range_with_len}
use Rattle.std.specs.List.Sorted.{IsPermutation, IsSorted}
use Rattle.std.specs.Ordering.{nat_cmp, int_cmp, ordering_then}
use Rattle.std.specs.declared.cmp.Ordering.{Ordering}
use Rattle.mintc_fraction.specs.Ratio.{over}
use Rattle.mintc_text.specs.Lines.{ended, text_of}
use Rattle.mintc_timing.specs.declared.clocking.Schedule.{Schedule}
use Rattle.mintc_timing.specs.declared.violation.Broken.{Broken}
use Rattle.mintc_timing.specs.declared.violation.Broken.TheVariants as broken
use Rattle.mintc_timing.specs.declared.violation.Violation.{Violation}
use Rattle.mintc_timing.specs.Design.{Timing}
use Rattle.mintc_timing.specs.Violations.{check}
use Rattle.mintcx_amounts.specs.declared.unit.Unit.{Unit}
use Rattle.mintcx_frame.specs.declared.view.View.{View}
use Rattle.mintcx_frame.specs.Ends.{head_text, foot_text, unit_for}
use Rattle.mintcx_judgements.specs.Rules.{rule_lines}
use Rattle.mintcx_judgements.specs.Data.{setup_lines, hold_lines, loop_lines}
use Rattle.mintcx_judgements.specs.Sources.{latest_into, earliest_into}

-- a violation in words, by the late and the early departures
abbrev pub broken_lines : Timing → Schedule → List ℤ → List ℤ → Unit → Broken → ℤ → List (List ℕ)
broken_lines t s late early unit (broken.Loop ring) amount = loop_lines t s unit ring amount
broken_lines t s late early unit (broken.Setup l) amount = setup_lines t s late unit l amount (latest_into t s late l)
broken_lines t s late early unit (broken.Hold l) amount = hold_lines t s early unit l amount (earliest_into t s early l)
broken_lines t s late early unit rule amount = rule_lines t s unit rule amount

-- the text of a violation
abbrev pub violation_text : Timing → Schedule → List ℤ → List ℤ → Unit → Violation → List ℕ
violation_text t s late early unit v = text_of (broken_lines t s late early unit v.broken v.amount)

-- The places of violations: the rules of the clock and a loop as they stand, then the setups, then the holds, of each
-- kind the worst first.
abbrev pub rank_of : Broken → ℕ
rank_of (broken.Cycle p) = 0
rank_of (broken.Order p) = 0
rank_of (broken.Span p) = 0
rank_of (broken.Width p) = 0
rank_of (broken.Apart i j) = 0
rank_of (broken.Bound n) = 0
rank_of (broken.Loop ring) = 0
rank_of (broken.Setup l) = 1
rank_of (broken.Hold l) = 2

-- the violation of a number
abbrev pub violation_at : List Violation → ℕ → Violation
violation_at vs n = slice_index_or vs n (check (broken.Cycle 0) (pos 0))

-- what comes ahead among violations of one rank: the worst, where there is an order by amounts
abbrev pub ahead_of : Violation → ℤ
ahead_of v = if rank_of v.broken == 0 then pos 0 else neg_ℤ v.amount

-- a violation's place: its rank, its amount turned round where the worst comes first, and its number
abbrev pub place_of : List Violation → ℕ → ℕ × ℤ × ℕ
place_of vs n = (rank_of (violation_at vs n).broken, ahead_of (violation_at vs n), n)

-- places by their parts, the first part first
abbrev pub place_cmp : ℕ × ℤ × ℕ → ℕ × ℤ × ℕ → Ordering
place_cmp x y = ordering_then (ordering_then (nat_cmp x.0 y.0) (int_cmp x.1 y.1)) (nat_cmp x.2 y.2)

-- The places are those of all violations, in order.
pub record AreRanked (vs : List Violation) (places : List (ℕ × ℤ × ℕ)) : Type 0 where
  pub permutation : IsPermutation (map (place_of vs) (range_with_len 0 (length vs))) places
  pub sorted : IsSorted place_cmp places

-- the violations in words, in the order of their places
abbrev pub ranked_text : Timing → Schedule → List ℤ → List ℤ → Unit → List Violation → List (ℕ × ℤ × ℕ) → List ℕ
ranked_text t s late early unit vs places =
    flat_map (λ (place : ℕ × ℤ × ℕ). violation_text t s late early unit (violation_at vs place.2)) places

-- the word for so many violations
abbrev pub count_word : ℕ → List ℕ
count_word n = if n == 1 then codes " violation:" else codes " violations:"

-- how many violations there are
abbrev pub count_line : ℕ → List ℕ
count_line n = decimal n ++ count_word n

-- the whole text: its head with the exact cycle, the number of the violations, each of them, and the unit
abbrev pub fail_text : Timing → Schedule → List ℤ → List ℤ → View → List Violation → List (ℕ × ℤ × ℕ) → List ℕ
fail_text t s late early view vs places =
    head_text (codes "fail") (over s.cycle s.den) view ++ 10 ∷ [] ++ ended (count_line (length vs)) ++ 10 ∷ []
    ++ ranked_text t s late early (unit_for view.unit (over s.cycle s.den)) vs places ++ 10 ∷ []
    ++ foot_text (unit_for view.unit (over s.cycle s.den)) []

-- The text is that of a fail with these violations.
abbrev pub IsFailText : Timing → Schedule → List ℤ → List ℤ → View → List Violation → List ℕ → Type 0
IsFailText t s late early view vs text =
    (places : List (ℕ × ℤ × ℕ)) × AreRanked vs places × (text ≡ fail_text t s late early view vs places)
