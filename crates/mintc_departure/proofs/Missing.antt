-- by how much outputs are early, which falls with each round
use Rattle.std.proofs.Common.{◌≡◌, ◌≢◌, ℕ, zero, suc, ◌+◌, ◌<◌, ◌≤◌, ℤ, pos, negsuc, ◌+ℤ◌, ◌-ℤ◌, ◌*ℤ◌, ◌≤ℤ◌, ◌<ℤ◌, List, arith, sym, ◌∙◌, ⊎_elim}
use Rattle.std.proofs.lemmas.Int.{ints}
use Rattle.std.proofs.lemmas.Bool.{cases_lt}
use Rattle.mintc_timing.specs.declared.clocking.Schedule.{Schedule}
use Rattle.mintc_timing.specs.Design.{Timing, element_at, element_count}
use Rattle.mintc_timing.specs.Departures.{departure, early_departure}
use Rattle.mintc_departure.specs.Rounds.{AreRising}
use Rattle.mintc_departure.proofs.EarlyLaws.{IsRound}
use Rattle.mintc_departure.proofs.SweepLaws.{strictly}

-- a number that is not negative, and 0 for any other
abbrev pub count_of : ℤ → ℕ
count_of (pos n) = n
count_of (negsuc n) = 0

count-mono : (x y : ℤ) → x ≤ℤ y → count_of x ≤ count_of y
count-mono x y h = grind (arith, ints)

count-falls : (x y : ℤ) → pos 0 ≤ℤ x → x <ℤ y → count_of x < count_of y
count-falls x y p h = grind (arith, ints)

-- by how much the first n outputs are early, added up
abbrev pub missing : Timing → Schedule → List ℤ → List ℤ → ℕ → ℕ
missing t s late d zero = 0
missing t s late d (suc n) = missing t s late d n +
    count_of ((departure late n +ℤ (element_at t.flat n).dq_max *ℤ s.den) -ℤ (departure d n +ℤ (element_at t.flat n).dq_min *ℤ s.den))

module _ (t : Timing) (s : Schedule) (late d e : List ℤ) where
  missing-mono : (n : ℕ) → ((l : ℕ) → l < n → departure d l ≤ℤ departure e l) → missing t s late e n ≤ missing t s late d n
  missing-mono zero h = omega arith
  missing-mono (suc n) h =
      let rest = missing-mono n (λ l lt. h l (omega arith)) in
      let here = h n (omega arith) in
      let one = count-mono ((departure late n +ℤ (element_at t.flat n).dq_max *ℤ s.den) -ℤ (departure e n +ℤ (element_at t.flat n).dq_min *ℤ s.den))
      ((departure late n +ℤ (element_at t.flat n).dq_max *ℤ s.den) -ℤ (departure d n +ℤ (element_at t.flat n).dq_min *ℤ s.den)) (omega (arith, ints)) in
      omega arith

  pub missing-falls : (n j : ℕ) → ((l : ℕ) → l < n → departure d l ≤ℤ departure e l) →
      ((l : ℕ) → l < n → (departure e l +ℤ (element_at t.flat l).dq_min *ℤ s.den) ≤ℤ (departure late l +ℤ (element_at t.flat l).dq_max *ℤ s.den)) →
      j < n → departure d j <ℤ departure e j → missing t s late e n < missing t s late d n
  missing-falls zero j h k lt up = absurd (omega arith)
  missing-falls (suc n) j h k lt up =
      let here = h n (omega arith) in
      let inside = k n (omega arith) in
      let old = (departure late n +ℤ (element_at t.flat n).dq_max *ℤ s.den) -ℤ (departure d n +ℤ (element_at t.flat n).dq_min *ℤ s.den) in
      let new = (departure late n +ℤ (element_at t.flat n).dq_max *ℤ s.den) -ℤ (departure e n +ℤ (element_at t.flat n).dq_min *ℤ s.den) in
      ⊎_elim
      (λ below.
      let rest = missing-falls n j (λ l w. h l (omega arith)) (λ l w. k l (omega arith)) below up in
      let one = count-mono new old (omega (arith, ints)) in
      omega arith)
      (λ past.
      let is : n ≡ j = omega arith in
      let rest = missing-mono n (λ l w. h l (omega arith)) in
      let up_here : departure d n <ℤ departure e n = rw is up in
      let one = count-falls new old (omega (arith, ints)) (omega (arith, ints)) in
      omega arith)
      (cases_lt j n)

-- A round that changes something leaves less to rise.
pub round-falls : (t : Timing) (s : Schedule) (late d e : List ℤ) → AreRising t s late d → AreRising t s late e → IsRound t s d e →
    (l : ℕ) × (l < element_count t.flat) × (early_departure t s d l ≢ departure d l) → missing t s late e (element_count t.flat) < missing t s late d (element_count t.flat)
round-falls t s late d e old new round changed =
    let j = changed.0 in
    let rose : departure d j ≤ℤ departure e j = rw (round j changed.1) (old.rises j changed.1) in
    let other : departure d j ≡ departure e j → ⊥ = λ same. changed.2 (sym (round j changed.1) ∙ sym same) in
    missing-falls t s late d e (element_count t.flat) j (λ l h. rw (round l h) (old.rises l h)) new.before changed.1 (strictly _ _ rose other)
