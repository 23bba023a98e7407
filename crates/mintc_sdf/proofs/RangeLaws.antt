-- The numbers of delays are in range.
use Rattle.std.proofs.Common.{◌≡◌, ℕ, ◌*◌, ◌/◌, ◌%◌, ◌^◌, ◌<◌, ◌≤◌, nat_lt, Bool, true, false, not, ◌&&◌, if◌then◌else◌, List, [], ◌∷◌, ◌++◌, All, Option, Some, None, option_map, Result, Ok, Err, refl, sym, ap, subst, ◌∙◌, arith, ℤ, pos, negsuc, neg_ℤ, ◌≤ℤ◌}
use Rattle.std.specs.Int.{int_min, int_max}
use Rattle.std.proofs.lemmas.Int.{ints, clamps}
use Rattle.std.proofs.lemmas.List.Elements.{All-cons}
use Rattle.std.proofs.lemmas.Bool.Decides.{nat_tests}
use Rattle.std.proofs.lemmas.Nat.{div-add-mod'}
use Rattle.std.specs.Option.{option_or}
use Rattle.mintc_text.specs.declared.refusals.Refusal.{Refusal}
use Rattle.mintc_decimal.specs.Decimals.{Number, over, under, away, floor_of, ceiling_of, tens_up}
use Rattle.mintc_sdf.specs.declared.delays.Delay.{Delay}
use Rattle.mintc_sdf.specs.declared.numbers.Fault.{Fault}
use Rattle.mintc_sdf.specs.Numbers.{is_far, is_below_zero, rounded_down, rounded_up, least, greatest, number_fault}
use Rattle.mintc_sdf.specs.Texts.{Said, may_be_negative, refusal_of, fault_of, first_fault, delays_by, delays_from, said_in, judged, reading, delays_of}
use Rattle.mintc_sdf_tokens.specs.Tokens.{tokens_of}
use Rattle.mintc_sdf.specs.Laws.{IsWithin}
use Rattle.mintc_sdf.proofs.RoundLaws.{less, quotient, under-some}

-- the least that a number may be, where it may be below 0 or not
abbrev low : Bool → ℤ
low negative = if negative then negsuc 999999999 else pos 0

abbrev Bounds : Bool → ℤ → ℤ → Type 0
Bounds negative x y = (low negative ≤ℤ x) × (x ≤ℤ y) × (y ≤ℤ pos (10 ^ 9))

away-least : (q : ℕ) (left : Bool) → q ≤ away q left
away-least q left = grind arith

away-most : (q m : ℕ) (left : Bool) → q ≤ m → (q ≡ m → left ≡ false) → away q left ≤ m
away-most q m left h e = grind (arith, nat_tests, e)

rounds : (negative sign : Bool) (q a : ℕ) → q ≤ a → a ≤ 10 ^ 9 → (sign && not negative ≡ true → a ≡ 0) →
    Bounds negative (if sign then neg_ℤ (pos a) else pos q) (if sign then neg_ℤ (pos q) else pos a)
rounds negative sign q a h e f = grind (arith, ints, f)

-- one number
shape : (sign : Bool) (q : ℕ) (left : Bool) → (floor_of sign q left ≡ (if sign then neg_ℤ (pos (away q left)) else pos q)) × (ceiling_of sign q left ≡ (if sign then neg_ℤ (pos q) else pos (away q left)))
shape true q left = (refl, refl)
shape false q left = (refl, refl)

none-left : (d : ℕ) → 0 < d → away (0 / d) (nat_lt 0 (0 % d)) ≡ 0
none-left d h =
    let parts = div-add-mod' 0 d in
    let left : 0 % d ≡ 0 = omega (arith, parts) in
    let whole : 0 / d ≤ 0 = less (0 / d) 0 d (omega (arith, parts, h)) in
    let none : 0 / d ≡ 0 = omega (arith, whole) in
    ap (λ r. away (0 / d) (nat_lt 0 r)) left ∙ none

times-none : (s p : ℕ) → (0 * s) * p ≡ 0
times-none s p = grind arith

pub near-most : (a b : ℕ) → nat_lt a b ≡ false → b ≤ a
near-most a b e = grind (arith, nat_tests)

number-bounds : (scale : ℕ) (negative : Bool) (v : Number) → is_far scale v ≡ false → (is_below_zero v && not negative) ≡ false → Bounds negative (rounded_down scale v) (rounded_up scale v)
number-bounds scale negative v far sign =
    let o = over v scale in
    let d = under v in
    let some = under-some v in
    let q = quotient o d some (near-most (10 ^ 9 * d) o far) in
    let left = nat_lt 0 (o % d) in
    let s = shape v.negative (o / d) left in
    subst (λ x. Bounds negative x (rounded_up scale v)) (sym s.0)
    (subst (λ y. Bounds negative (if v.negative then neg_ℤ (pos (away (o / d) left)) else pos (o / d)) y) (sym s.1)
    (rounds negative v.negative (o / d) (away (o / d) left) (away-least (o / d) left) (away-most (o / d) (10 ^ 9) left q.within q.room)
    (λ e. ap (λ n. away (n / d) (nat_lt 0 (n % d))) (ap (λ n. (n * scale) * 10 ^ tens_up v.places) (no-digits v.negative (not negative) v.digits e sign) ∙ times-none scale (10 ^ tens_up v.places)) ∙ none-left d some)))
  where
    no-digits : (a b : Bool) (n : ℕ) → (a && b) ≡ true → ((a && nat_lt 0 n) && b) ≡ false → n ≡ 0
    no-digits a b n e f = grind (arith, nat_tests)

-- several numbers
merge : (negative : Bool) (a b x y : ℤ) → Bounds negative a b → Bounds negative x y → Bounds negative (int_min a x) (int_max b y)
merge negative a b x y h e = grind (arith, ints, clamps)

number-parts : (scale : ℕ) (negative : Bool) (v : Number) (vs : List Number) → number_fault scale negative (v ∷ vs) ≡ None →
    (is_far scale v ≡ false) × ((is_below_zero v && not negative) ≡ false) × (number_fault scale negative vs ≡ None)
number-parts scale negative v vs e = grind (arith, e)

numbers-bounds : (scale : ℕ) (negative : Bool) (v : Number) (vs : List Number) → number_fault scale negative (v ∷ vs) ≡ None → Bounds negative (least scale v vs) (greatest scale v vs)
numbers-bounds scale negative v [] e = let p = number-parts scale negative v [] e in number-bounds scale negative v p.0 p.1
numbers-bounds scale negative v (u ∷ us) e =
    let p = number-parts scale negative v (u ∷ us) e in
    merge negative (rounded_down scale v) (rounded_up scale v) (least scale u us) (greatest scale u us) (number-bounds scale negative v p.0 p.1) (numbers-bounds scale negative u us p.2)

-- the delays of what is said
one-within : (s : Said) (ns : List Number) → number_fault s.scale (may_be_negative s.claim.subject) ns ≡ None → (rest : List Delay) → All IsWithin rest → All IsWithin (delays_by s ns ++ rest)
one-within s [] e rest h = h
one-within s (v ∷ vs) e rest h = All-cons IsWithin _ rest (numbers-bounds s.scale (may_be_negative s.claim.subject) v vs e) h

all-within : (ss : List Said) → first_fault ss ≡ None → All IsWithin (delays_from ss)
all-within [] e = λ k d h. absurd (omega arith)
all-within (s ∷ ss) e =
    let p = both (fault_of s) refl e in
    one-within s s.claim.numbers p.0 (delays_from ss) (all-within ss p.1)
  where
    faultless : (o : Option Fault) → option_map (refusal_of s.entry) o ≡ None → o ≡ None
    faultless o f = grind (arith, f)

    both : (o : Option Refusal) → fault_of s ≡ o → option_or o (first_fault ss) ≡ None → (number_fault s.scale (may_be_negative s.claim.subject) s.claim.numbers ≡ None) × (first_fault ss ≡ None)
    both None f g = (faultless (number_fault s.scale (may_be_negative s.claim.subject) s.claim.numbers) f, g)
    both (Some r) f g = absurd (cc)

pub delays-within : (text : List ℕ) (ds : List Delay) → delays_of text ≡ Ok ds → All IsWithin ds
delays-within text ds e = by (said_in (tokens_of text)) e
  where
    judge : (ss : List Said) (o : Option Refusal) → first_fault ss ≡ o → judged ss o ≡ Ok ds → All IsWithin ds
    judge ss None f g = let same : delays_from ss ≡ ds = cc in subst (All IsWithin) same (all-within ss f)
    judge ss (Some r) f g = absurd (cc)

    by : (r : Result (List Said) ℕ) → reading r ≡ Ok ds → All IsWithin ds
    by (Err n) f = absurd (cc)
    by (Ok ss) f = judge ss (first_fault ss) refl f
