-- Designs that are accepted, and refusals that are determined.
use Rattle.std.proofs.Common.{◌≡◌, ◌<◌, ℕ, List, length, min, ap, ◌∙◌, sym, subst, inl, inr, arith}
use Rattle.std.proofs.lemmas.Int.{ints}
use Rattle.mintc_text.specs.declared.limits.Most.{Most}
use Rattle.mintc_text.specs.declared.refusals.Kind.TheVariants as kind
use Rattle.mintc_text.specs.declared.refusals.Refusal.{Refusal}
use Rattle.mintc_text.specs.declared.refusals.Refusal.TheVariants as refusal
use Rattle.mintc_timing.specs.declared.parts.Pair.{Pair}
use Rattle.mintc_timing.specs.Accepted.{IsAccepted}
use Rattle.mintc_timing.specs.Design.{Design}
use Rattle.mintc_timing.specs.Laws.{PairsAreDetermined}
use Rattle.mintc_timing.specs.Order.{ArePathsShort}
use Rattle.mintc_paths.specs.Refusals.{IsExtremesRefusal, IsLong, IsFirstLong, AreTooMany}
use Rattle.mintc_build.specs.Laws.{AcceptedAreNotRefused, DesignRefusalsAreDetermined}

-- Where all paths are short, none is long.
none_long : (design : Design) (j bit : ℕ) → ArePathsShort design → IsFirstLong design j bit → ⊥
none_long design j bit short h =
    let path = h.long.0 in
    let low = short j bit path h.element h.long.1.0 in
    let high = h.long.1.1 in
    omega (arith, ints, low, high)

-- a refusal of the extremes, and none where they are within their limits
accepted_extremes : (most : Most) (design : Design) (refused : Refusal) → IsAccepted most design → IsExtremesRefusal most design refused → ⊥
accepted_extremes most design (refusal.PathRange j bit) accepted h = none_long design j bit accepted.short h
accepted_extremes most design (refusal.Limit kind.Pairs count) accepted h =
    let few = accepted.few h.1.0 h.1.1 in
    let many = h.1.2 in
    omega (arith, few, many)
accepted_extremes most design _ accepted h = absurd h

pub accepted_lem : AcceptedAreNotRefused
accepted_lem most design refused accepted h = elim h [
  | inl looping ↦ accepted.no_loop looping.0 looping.2
  | inr long ↦ accepted_extremes most design refused accepted long.1
]

-- There is one first element that a long path leaves, and one first bit that such a path leads to.
one_first : (design : Design) (i bit j other : ℕ) → IsFirstLong design i bit → IsFirstLong design j other → refusal.PathRange i bit ≡ refusal.PathRange j other
one_first design i bit j other a b =
    let low : i < j → ⊥ = λ h. b.first_element i bit a.long.0 h a.long.1 in
    let high : j < i → ⊥ = λ h. a.first_element j other b.long.0 h b.long.1 in
    let same : i ≡ j = omega (arith, low, high) in
    let from_j : IsLong design j bit a.long.0 = subst (λ (n : ℕ). IsLong design n bit a.long.0) same a.long.1 in
    let from_i : IsLong design i other b.long.0 = subst (λ (n : ℕ). IsLong design n other b.long.0) (sym same) b.long.1 in
    let low_bit : bit < other → ⊥ = λ h. b.first_bit bit a.long.0 h from_j in
    let high_bit : other < bit → ⊥ = λ h. a.first_bit other b.long.0 h from_i in
    let same_bit : bit ≡ other = omega (arith, low_bit, high_bit) in
    ap (λ (n : ℕ). refusal.PathRange n bit) same ∙ ap (λ (n : ℕ). refusal.PathRange j n) same_bit

one_count : PairsAreDetermined → (most : Most) (design : Design) (m n : ℕ) → AreTooMany most design m → AreTooMany most design n → m ≡ n
one_count law most design m n a b =
    let same : a.1.0 ≡ b.1.0 = law design a.1.0 b.1.0 a.1.1 b.1.1 in
    a.1.3 ∙ ap (λ (pairs : List Pair). min (length pairs) 1000000000) same ∙ sym b.1.3

one_of_extremes : PairsAreDetermined → (most : Most) (design : Design) (refused other : Refusal) → IsExtremesRefusal most design refused → IsExtremesRefusal most design other → refused ≡ other
one_of_extremes law most design (refusal.PathRange i bit) (refusal.PathRange j other) a b = one_first design i bit j other a b
one_of_extremes law most design (refusal.PathRange i bit) (refusal.Limit kind.Pairs n) a b = absurd (none_long design i bit b.0 a)
one_of_extremes law most design (refusal.PathRange i bit) _ a b = absurd b
one_of_extremes law most design (refusal.Limit kind.Pairs m) (refusal.PathRange j other) a b = absurd (none_long design j other a.0 b)
one_of_extremes law most design (refusal.Limit kind.Pairs m) (refusal.Limit kind.Pairs n) a b = ap (λ (count : ℕ). refusal.Limit kind.Pairs count) (one_count law most design m n a b)
one_of_extremes law most design (refusal.Limit kind.Pairs m) _ a b = absurd b
one_of_extremes law most design _ other a b = absurd a

pub determined_lem : PairsAreDetermined → DesignRefusalsAreDetermined
determined_lem law most design refused other a b = elim a [
  | inl looping ↦ elim b [
    | inl other_loop ↦ inr ((looping.0, looping.1), (other_loop.0, other_loop.1))
    | inr none ↦ absurd (none.0 looping.0 looping.2)
  ]
  | inr long ↦ elim b [
    | inl other_loop ↦ absurd (long.0 other_loop.0 other_loop.2)
    | inr none ↦ inl (one_of_extremes law most design refused other long.1 none.1)
  ]
]
