-- What holds from one place to a later one, step by step, and from one listed element to the next.
use Rattle.std.proofs.Common.{◌≡◌, ◌≢◌, ◌<◌, ◌≤◌, ◌+◌, ◌-◌, ℕ, zero, suc, List, length, arith, subst}
use Rattle.mintc_paths.specs.Found.{end_at}

climb_by : (P : ℕ → Type 0) (d k : ℕ) → ((i : ℕ) → k ≤ i → i < k + d → P i → P (i + 1)) → P k → P (k + d)
climb_by P zero k step h = let e : k ≡ k + 0 = omega arith in subst P e h
climb_by P (suc d) k step h =
    let e : k + d + 1 ≡ k + suc d = omega arith in
    subst P e (step (k + d) (omega arith) (omega arith) (climb_by P d k (λ i low high. step i low (omega arith)) h))

pub climb : (P : ℕ → Type 0) (k m : ℕ) → k ≤ m → ((i : ℕ) → k ≤ i → i < m → P i → P (i + 1)) → P k → P m
climb P k m low step h = let e : k + (m - k) ≡ m = omega arith in subst P e (climb_by P (m - k) k (λ i from below. step i from (omega arith)) h)

-- It holds before some element, which comes after the ends before this one and not after this one.
pub record IsToEnd (P : ℕ → Type 0) (n : ℕ) (ends : List ℕ) (number : ℕ) : Type 0 where
  pub place : ℕ
  pub inside : place ≤ n
  pub before : (i : ℕ) → i < number → end_at ends i < place
  pub after : (i : ℕ) → number ≤ i → i < length ends → place ≤ end_at ends i
  pub holds : P place

module _ (n : ℕ) (ends : List ℕ) (ascending : (i k : ℕ) → i < k → k < length ends → end_at ends i < end_at ends k) (inside : (i : ℕ) → i < length ends → end_at ends i < n)
    (P : ℕ → Type 0) where
  pub IsToEnd-more : (number : ℕ) → number < length ends → P (end_at ends number + 1) → IsToEnd P n ends (number + 1)
  IsToEnd-more number low h = record {
    place = end_at ends number + 1;
    inside = omega (arith, inside number low);
    before = λ i sooner. grind (arith, ascending i number);
    after = λ i later below. omega (arith, ascending number i (omega arith) below);
    holds = h;
  }

  -- An element that isn't listed changes nothing.
  module _ (skip : (to : ℕ) → to < n → ((i : ℕ) → i < length ends → end_at ends i ≢ to) → P to → P (to + 1)) where
    up_to : (number end : ℕ) (h : IsToEnd P n ends number) → h.place ≤ end → end ≤ n → ((i : ℕ) → number ≤ i → i < length ends → end ≤ end_at ends i) → P end
    up_to number end h some few after = climb P h.place end some (λ to high low. skip to (omega arith) (apart to high low)) h.holds
      where
        apart : (to : ℕ) → h.place ≤ to → to < end → (i : ℕ) → i < length ends → end_at ends i ≢ to
        apart to high low i below e = grind (arith, h.before i, after i)

    -- the end itself
    pub IsToEnd-at : (number : ℕ) → number < length ends → IsToEnd P n ends number → P (end_at ends number)
    IsToEnd-at number low h =
        let below = inside number low in
        up_to number (end_at ends number) h (h.after number (omega arith) low) (omega arith) at_or_after
      where
        at_or_after : (i : ℕ) → number ≤ i → i < length ends → end_at ends number ≤ end_at ends i
        at_or_after i later below = grind (arith, ascending number i)

    -- past all ends
    pub IsToEnd-all : IsToEnd P n ends (length ends) → P n
    IsToEnd-all h = up_to (length ends) n h h.inside (omega arith) (λ i later below. absurd (omega arith))
