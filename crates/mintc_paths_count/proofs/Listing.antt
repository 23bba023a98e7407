-- Pairs that are counted from one listed element to the next.
use Rattle.std.proofs.Common.{◌≡◌, ◌≢◌, ◌<◌, ◌≤◌, ◌+◌, ℕ, List, length, arith, subst}
use Rattle.mintc_text.specs.declared.limits.TheConstants.{MOST_ELEMENTS}
use Rattle.mintc_timing.specs.Design.{Design}
use Rattle.mintc_paths_count.specs.declared.marks.Marks.{Marks}
use Rattle.mintc_paths_count.specs.declared.marks.TheConstants.{NO_MARKS}
use Rattle.mintc_paths_count.specs.Count.{AreEndsOf, AreListed, IsCountBefore}
use Rattle.mintc_paths_count.specs.Marks.{mark_in, marks_at}
use Rattle.mintc_paths_count.proofs.Counting.{IsCountBefore-more, IsCountBefore-next}
use Rattle.mintc_paths_count.proofs.Noting.{none_in}
use Rattle.mintc_paths.specs.Found.{end_at}
use Rattle.mintc_paths.proofs.SharedClimbing.{IsToEnd, IsToEnd-at, IsToEnd-more, IsToEnd-all}

-- The count is that of the pairs before some element, which comes after the listed ones before this one and not after this one.
abbrev pub IsCountToEnd : Design → ℕ → List ℕ → ℕ → ℕ → Type 0
IsCountToEnd design from listed number count = IsToEnd (λ to. IsCountBefore design from to count) (length design.elements) listed number

module _ (design : Design) (from lane : ℕ) (low : lane < 128) (ends : List Marks) (listed : List ℕ) (are_ends : AreEndsOf design from lane ends)
    (are_listed : AreListed (λ to. marks_at ends to ≡ NO_MARKS) (length design.elements) listed) where
  -- an element that isn't listed isn't marked
  skip : (count to : ℕ) → to < length design.elements → ((i : ℕ) → i < length listed → end_at listed i ≢ to) → IsCountBefore design from to count → IsCountBefore design from (to + 1) count
  skip count to below apart h =
      let same : count + mark_in (marks_at ends to) lane ≡ count = omega (arith, none_in (marks_at ends to) lane low (are_listed.others to below apart)) in
      subst (λ k. IsCountBefore design from (to + 1) k) same (IsCountBefore-more design from to count h (marks_at ends to) lane (are_ends to below))

  pub IsCountToEnd_more : (number count : ℕ) → number < length listed → IsCountToEnd design from listed number count →
      IsCountToEnd design from listed (number + 1) (count + mark_in (marks_at ends (end_at listed number)) lane)
  IsCountToEnd_more number count inside h =
      let to : ℕ = end_at listed number in
      let here = IsToEnd-at (length design.elements) listed are_listed.ascending are_listed.inside (λ k. IsCountBefore design from k count) (skip count) number inside h in
      IsToEnd-more (length design.elements) listed are_listed.ascending are_listed.inside (λ k. IsCountBefore design from k (count + mark_in (marks_at ends to) lane)) number inside
      (IsCountBefore-more design from to count here (marks_at ends to) lane (are_ends to (are_listed.inside number inside)))

  pub IsCountToEnd-next : (count : ℕ) → length design.elements ≤ MOST_ELEMENTS → IsCountToEnd design from listed (length listed) count → IsCountBefore design (from + 1) 0 count
  IsCountToEnd-next count limit h =
      IsCountBefore-next design from count limit
      (IsToEnd-all (length design.elements) listed are_listed.ascending are_listed.inside (λ k. IsCountBefore design from k count) (skip count) h)
