-- Each fraction has lowest terms: those with the least denominator that any fraction of its value has.
use Rattle.std.proofs.Common.{◌≡◌, ℕ, zero, suc, ◌+◌, ◌<◌, ◌≤◌, ℤ, pos, negsuc, ◌+ℤ◌, ◌*ℤ◌, ◌≤ℤ◌, ◌<ℤ◌, refl, sym, ap, ◌∙◌, subst, ◌⊎◌, inl, inr, ⊎_elim, arith}
use Rattle.std.specs.Int.{int_div_euclid}
use Rattle.std.proofs.lemmas.Bool.{cases_lt}
use Rattle.std.proofs.lemmas.Int.{ints, by_lt_z}
use Rattle.std.proofs.Math.Nat.{div-add-mod, mod-lt}
use Rattle.std.proofs.Math.IntN.{*ℤ_comm, zero-*ℤ}
use Rattle.mintc_fraction.specs.Ratio.{Ratio, over}
use Rattle.mintc_fraction.proofs.SharedProducts.{times-assoc, add-times, swap-times, times-mono_positive, times-cancel_equal}
use Rattle.mintc_fraction_laws.specs.Lowest.{FractionsReduce, IsReducedTo}

-- the quotient that rounds down
pub div_euclid-low : (x y : ℤ) → pos 1 ≤ℤ y → (int_div_euclid x y *ℤ y) ≤ℤ x
div_euclid-low (pos a) (pos b) p = omega (arith, ints, div-add-mod a b)
div_euclid-low (negsuc a) (pos b) p =
    let some : 0 < b = omega (arith, ints) in
    omega (arith, ints, div-add-mod a b, mod-lt a some)
div_euclid-low x (negsuc b) p = absurd (omega (arith, ints))

pub div_euclid-high : (x y : ℤ) → pos 1 ≤ℤ y → x <ℤ (int_div_euclid x y *ℤ y +ℤ y)
div_euclid-high (pos a) (pos b) p =
    let some : 0 < b = omega (arith, ints) in
    omega (arith, ints, div-add-mod a b, mod-lt a some)
div_euclid-high (negsuc a) (pos b) p = omega (arith, ints, div-add-mod a b)
div_euclid-high x (negsuc b) p = absurd (omega (arith, ints))

-- sums of numbers in order, as the steps below use them
both_ways : (x y : ℤ) → x ≤ℤ y → y ≤ℤ x → x ≡ y
both_ways x y h k = omega (arith, ints)

not_above : (low x high p next : ℤ) → p ≡ x → x <ℤ high → next ≤ℤ p → next ≡ high → ⊥
not_above low x high p next a b c d = omega (arith, ints)

not_below : (low x p : ℤ) → p ≡ x → low <ℤ x → p ≤ℤ low → ⊥
not_below low x p a b c = omega (arith, ints)

pub next_is : (q y : ℤ) → (q +ℤ pos 1) *ℤ y ≡ q *ℤ y +ℤ y
next_is q y = let one : pos 1 *ℤ y ≡ y = omega (arith, ints) in add-times q (pos 1) y ∙ ap (λ v. q *ℤ y +ℤ v) one

-- A number is a multiple of a positive one, or it isn't.
decide_multiple : (x y : ℤ) → pos 1 ≤ℤ y → ((m : ℤ) × (m *ℤ y ≡ x)) ⊎ (((m : ℤ) × (m *ℤ y ≡ x)) → ⊥)
decide_multiple x y some =
    let q = int_div_euclid x y in
    let low = div_euclid-low x y some in
    let high = div_euclid-high x y some in
    by_lt_z (q *ℤ y) x
    (λ less. inr (λ (h : (m : ℤ) × (m *ℤ y ≡ x)).
    by_lt_z q h.0
    (λ more. not_above (q *ℤ y) x (q *ℤ y +ℤ y) (h.0 *ℤ y) ((q +ℤ pos 1) *ℤ y) h.1 high (times-mono_positive (q +ℤ pos 1) h.0 y (omega (arith, ints)) some) (next_is q y))
    (λ most. not_below (q *ℤ y) x (h.0 *ℤ y) h.1 less (times-mono_positive h.0 q y most some))))
    (λ more. inl (q, both_ways (q *ℤ y) x low more))

halved : (p q : ℤ) (f e : ℕ) → (pos 2 *ℤ pos f) ≤ℤ p → p ≡ q → q ≡ pos e → 1 ≤ f → f < e
halved p q f e a b c low = omega (arith, ints)

not_low : (p z : ℤ) (e : ℕ) → p ≤ℤ z → z ≡ pos 0 → p ≡ pos e → 1 ≤ e → ⊥
not_low p z e a b c low = omega (arith, ints)

module _ (num den : ℤ) (some : pos 1 ≤ℤ den) where
  -- Some fraction with this denominator has the value.
  abbrev Has : ℕ → Type 0
  Has e = (m : ℤ) × (m *ℤ den ≡ num *ℤ pos e)

  -- The least of these denominators, with its numerator.
  abbrev IsLeast : Type 0
  IsLeast = (e : ℕ) × (m : ℤ) × (1 ≤ e) × (m *ℤ den ≡ num *ℤ pos e) × ((f : ℕ) → 1 ≤ f → f < e → Has f → ⊥)

  none-more : (c : ℕ) → ((f : ℕ) → 1 ≤ f → f < c → Has f → ⊥) → (Has c → ⊥) → (f : ℕ) → 1 ≤ f → f < suc c → Has f → ⊥
  none-more c none nothing f low lt =
      ⊎_elim
      (λ (below : f < c). none f low below)
      (λ (past : c ≤ f). let same : c ≡ f = omega arith in subst (λ (k : ℕ). Has k → ⊥) same nothing)
      (cases_lt f c)

  search_up : (left c : ℕ) → pos (c + left) ≡ den → 1 ≤ c → ((f : ℕ) → 1 ≤ f → f < c → Has f → ⊥) → IsLeast
  search_up zero c is low none =
      let whole : pos c ≡ den = ap pos (let e : c ≡ c + zero = omega arith in e) ∙ is in
      (c, num, low, ap (λ (z : ℤ). num *ℤ z) (sym whole), none)
  search_up (suc left) c is low none =
      let further : pos (suc c + left) ≡ den = ap pos (let e : suc c + left ≡ c + suc left = omega arith in e) ∙ is in
      ⊎_elim
      (λ (has : Has c). (c, has.0, low, has.1, none))
      (λ (nothing : Has c → ⊥). search_up left (suc c) further (omega arith) (none-more c none nothing))
      (decide_multiple (num *ℤ pos c) den some)

  -- No factor is left in it.
  factor_free : (e : ℕ) (m : ℤ) → 1 ≤ e → m *ℤ den ≡ num *ℤ pos e → ((f : ℕ) → 1 ≤ f → f < e → Has f → ⊥) →
      (k x y : ℤ) → pos 1 <ℤ k → x *ℤ k ≡ m → y *ℤ k ≡ pos e → ⊥
  factor_free e m low is none k x (pos zero) more a b = not_low (pos 0 *ℤ k) (pos 0 *ℤ k) e (omega (arith, ints)) (zero-*ℤ k) b low
  factor_free e m low is none k x (pos (suc f)) more a b =
      let positive : pos 1 ≤ℤ k = omega (arith, ints) in
      let inside : 1 ≤ suc f = omega arith in
      let twice : (pos 2 *ℤ pos (suc f)) ≤ℤ (k *ℤ pos (suc f)) = times-mono_positive (pos 2) k (pos (suc f)) (omega (arith, ints)) (omega (arith, ints)) in
      let less : suc f < e = halved (k *ℤ pos (suc f)) (pos (suc f) *ℤ k) (suc f) e twice (*ℤ_comm k (pos (suc f))) b inside in
      let same : (x *ℤ den) *ℤ k ≡ (num *ℤ pos (suc f)) *ℤ k =
      swap-times x den k ∙ ap (λ (v : ℤ). v *ℤ den) a ∙ is ∙ ap (λ (v : ℤ). num *ℤ v) (sym b) ∙ sym (times-assoc num (pos (suc f)) k) in
      none (suc f) inside less (x, times-cancel_equal (x *ℤ den) (num *ℤ pos (suc f)) k positive same)
  factor_free e m low is none k x (negsuc f) more a b =
      let positive : pos 1 ≤ℤ k = omega (arith, ints) in
      not_low (negsuc f *ℤ k) (pos 0 *ℤ k) e (times-mono_positive (negsuc f) (pos 0) k (omega (arith, ints)) positive) (zero-*ℤ k) b low

  -- It is no greater than the denominator itself, which is one of them.
  no_more : (e d : ℕ) → pos d ≡ den → 1 ≤ d → ((f : ℕ) → 1 ≤ f → f < e → Has f → ⊥) → e ≤ d
  no_more e d is low none =
      ⊎_elim
      (λ (below : d < e). absurd (none d low below (num, ap (λ (z : ℤ). num *ℤ z) (sym is))))
      (λ (past : e ≤ d). past)
      (cases_lt d e)

  lowest_of : (d : ℕ) → pos d ≡ den → 1 ≤ d → IsLeast → (lowest : Ratio) × IsReducedTo (over num den) lowest
  lowest_of d whole first (e, m, low, is, none) =
      let few = no_more e d whole first none in (
        over m (pos e),
        record {
          positive = omega (arith, ints);
          reduced = λ k more first second. factor_free e m low is none k first.0 second.0 more first.1 second.1;
          equal = is;
          less = omega (arith, ints);
        },
      )

-- The search begins at 1.
least_of : (num : ℤ) (n : ℕ) (some : pos 1 ≤ℤ pos (suc n)) → IsLeast num (pos (suc n)) some
least_of num n some =
    search_up num (pos (suc n)) some n 1 (ap pos (let e : 1 + n ≡ suc n = omega arith in e)) (omega arith) (λ f low lt has. absurd (omega arith))

reduced : (num den : ℤ) → pos 1 ≤ℤ den → (lowest : Ratio) × IsReducedTo (over num den) lowest
reduced num (pos zero) some = absurd (omega (arith, ints))
reduced num (pos (suc n)) some = lowest_of num (pos (suc n)) some (suc n) refl (omega arith) (least_of num n some)
reduced num (negsuc n) some = absurd (omega (arith, ints))

pub fractions_reduce_lem : FractionsReduce
fractions_reduce_lem a some = reduced a.num a.den some
