-- How many pairs of parentheses are outer ones.
use Rattle.std.proofs.Common.{◌≡◌, ℕ, zero, suc, ◌+◌, ◌-◌, ◌<◌, ◌≤◌, min, nat_lt, false, ◌==◌, List, [], ◌∷◌, length, take, drop, refl, sym, ap, ◌∙◌, arith, length-drop, drop-drop, inl, inr, ◌⊎◌}
use Rattle.std.proofs.lemmas.Bool.Decides.{nat_tests}
use Rattle.std.proofs.lemmas.List.{length-take-le, take_all}
use Rattle.mintc_liberty_cell.specs.Expressions.{closes_last, is_enclosed, without_last, peeled_within, peeled}
use Rattle.mintc_liberty_cell.specs.Parentheses.{leading, outer, pairs}

-- no more pairs than were counted
outer-most : (d k : ℕ) (bs : List ℕ) → outer d k bs ≤ k
outer-most d k [] = grind (arith, nat_tests)
outer-most d k (b ∷ bs) = grind (arith, nat_tests, outer-most (d - 1) k bs, outer-most (d + 1) (min k d) bs, outer-most d (min k d) bs)

-- where there is a pair, what is open is closed
outer-long : (d k : ℕ) (bs : List ℕ) → 0 < outer d k bs → d ≤ length bs
outer-long d k [] h = grind (arith, nat_tests)
outer-long d k (b ∷ bs) h = grind (arith, nat_tests, outer-long (d - 1) k bs, outer-long (d + 1) (min k d) bs, outer-long d (min k d) bs)

-- where more pairs are counted in the end than are open, nothing but closing ones is left
all-closing : (j d k : ℕ) (bs : List ℕ) → d ≤ j → j < k → j < outer d k bs → (outer d k bs ≡ k) × (length bs ≡ d)
all-closing j d k [] h l m = grind (arith, nat_tests)
all-closing j d k (b ∷ bs) h l m =
    grind (arith, nat_tests, all-closing j (d - 1) k bs, outer-most (d + 1) (min k d) bs, outer-most d (min k d) bs)

-- where just as many are counted as are open, more is left than closing ones
more-left : (j k : ℕ) (bs : List ℕ) → j < k → outer j k bs ≡ j → j < length bs
more-left j k [] l s = grind (arith, nat_tests)
more-left j k (b ∷ bs) l s =
    grind (arith, nat_tests, all-closing (j - 1) (j - 1) k bs, outer-long (j + 1) (min k j) bs, outer-long j (min k j) bs)

-- what the last one closes, where one more is open than the pairs that are looked at
closes-one : (j k : ℕ) (bs : List ℕ) → j < k → j ≤ length bs → j ≤ outer j k bs → (length (take (length bs - j) bs) == 0) ≡ nat_lt j (outer j k bs)
closes-one j k bs l w p = grind (arith, nat_tests, length-take-le (length bs - j) bs, all-closing j j k bs, more-left j k bs)

take-none : (n : ℕ) → take n (let none : List ℕ = [] in none) ≡ []
take-none n = grind arith

take-less : (n j b : ℕ) (bs : List ℕ) → j ≤ n → take (suc n - j) (b ∷ bs) ≡ b ∷ take (n - j) bs
take-less n j b bs h = let more : suc n - j ≡ suc (n - j) = omega (arith, h) in ap (λ m. take m (b ∷ bs)) more

take-over : (n j : ℕ) (bs : List ℕ) → n ≤ j → take (n - j) bs ≡ []
take-over n j bs h = let none : n - j ≡ 0 = omega (arith, h) in rw none (take-none 0)

-- Behind pairs of which j are known to be outer ones, the next is one where more than j are counted.
closes : (j d k : ℕ) (bs : List ℕ) → j < d → j < k → j ≤ length bs → j ≤ outer d k bs → closes_last (d - j - 1) (take (length bs - j) bs) ≡ nat_lt j (outer d k bs)
closes j d k [] l m w p = grind (arith, nat_tests, take-none)
closes j d k (b ∷ bs) l m w p =
    grind (
      arith,
      nat_tests,
      take-less (length bs) j b bs,
      take-over (suc (length bs)) j (b ∷ bs),
      closes j (d + 1) (min k d) bs,
      closes j (d - 1) k bs,
      closes j d (min k d) bs,
      closes-one j k bs,
      outer-long d k (b ∷ bs),
    )

-- Those that open at the front

lead-long : (bs : List ℕ) → leading bs ≤ length bs
lead-long [] = omega arith
lead-long (b ∷ bs) = grind (arith, lead-long bs)

take-more : (l n m b : ℕ) (bs : List ℕ) → l ≡ suc n → take (l + m) (b ∷ bs) ≡ b ∷ take (n + m) bs
take-more l n m b bs e = let more : l + m ≡ suc (n + m) = omega (arith, e) in ap (λ k. take k (b ∷ bs)) more

drop-more : (l n b : ℕ) (bs : List ℕ) → l ≡ suc n → drop l (b ∷ bs) ≡ drop n bs
drop-more l n b bs e = ap (λ k. drop k (b ∷ bs)) e

-- each opens one more
opens : (c m : ℕ) (bs : List ℕ) → closes_last c (take (leading bs + m) bs) ≡ closes_last (c + leading bs) (take m (drop (leading bs) bs))
opens c m [] = grind (arith, take-none)
opens c m (b ∷ bs) =
    grind (arith, nat_tests, opens (suc c) m bs, take-more (leading (b ∷ bs)) (leading bs) m b bs, drop-more (leading (b ∷ bs)) (leading bs) b bs)

lead-at : (i : ℕ) (bs : List ℕ) → i < leading bs → drop i bs ≡ 40 ∷ drop (suc i) bs
lead-at i [] h = absurd (omega (arith, h))
lead-at zero (b ∷ bs) h = grind (arith, nat_tests)
lead-at (suc i) (b ∷ bs) h = grind (arith, lead-at i bs)

lead-drop : (i : ℕ) (bs : List ℕ) → i ≤ leading bs → leading (drop i bs) ≡ leading bs - i
lead-drop zero bs h = omega arith
lead-drop (suc i) [] h = omega arith
lead-drop (suc i) (b ∷ bs) h = grind (arith, lead-drop i bs)

no-lead : (m : ℕ) (xs : List ℕ) → leading xs ≡ 0 → is_enclosed (take m xs) ≡ false
no-lead m xs h = grind arith

-- what is left without so many pairs
abbrev pub inner : ℕ → List ℕ → List ℕ
inner i bs = take (length bs - i - i) (drop i bs)

-- where there are pairs, so much is left behind what opens
rest-long : (i : ℕ) (bs : List ℕ) → i ≤ pairs bs → i ≤ length (drop (leading bs) bs)
rest-long i bs h = grind (arith, outer-most (leading bs) (leading bs) (drop (leading bs) bs), outer-long (leading bs) (leading bs) (drop (leading bs) bs))

pub pairs-room : (bs : List ℕ) → (pairs bs ≤ leading bs) × (pairs bs + pairs bs ≤ length bs)
pairs-room bs =
    let most : pairs bs ≤ leading bs = outer-most (leading bs) (leading bs) (drop (leading bs) bs) in
    (most, omega (arith, most, rest-long (pairs bs) bs (omega arith), length-drop (leading bs) bs, lead-long bs))

-- the next pair is an outer one as long as there are more
enclosed-at : (i : ℕ) (bs : List ℕ) → i < leading bs → i ≤ length (drop (leading bs) bs) → i ≤ pairs bs → is_enclosed (inner i bs) ≡ nat_lt i (pairs bs)
enclosed-at i bs h w p =
    let a = leading bs in
    let rest = drop a bs in
    let ys = drop (suc i) bs in
    let all : length rest ≡ length bs - a = length-drop a bs in
    let long = lead-long bs in
    let next : leading ys ≡ a - suc i = lead-drop (suc i) bs (omega (arith, h)) in
    let some : length bs - i - i ≡ suc (leading ys + (length rest - i)) = omega (arith, h, w, all, long, next) in
    let on : drop (leading ys) ys ≡ rest = drop-drop (leading ys) (suc i) bs ∙ ap (λ n. drop n bs) (omega (arith, next, h)) in
    let opened : 0 + leading ys ≡ a - i - 1 = omega (arith, next) in
    ap (λ xs. is_enclosed (take (length bs - i - i) xs)) (lead-at i bs h)
    ∙ ap (λ n. is_enclosed (take n (40 ∷ ys))) some
    ∙ opens 0 (length rest - i) ys
    ∙ ap (λ xs. closes_last (0 + leading ys) (take (length rest - i) xs)) on
    ∙ ap (λ n. closes_last n (take (length rest - i) rest)) opened
    ∙ closes i a a rest h h w p

enclosed : (i : ℕ) (bs : List ℕ) → i ≤ pairs bs → is_enclosed (inner i bs) ≡ nat_lt i (pairs bs)
enclosed i bs h =
    let room = pairs-room bs in
    elim (below-or-at i (leading bs) (omega (arith, h, room.0))) [
      | inl less ↦ enclosed-at i bs less (rest-long i bs h) h
      | inr same ↦
          ap (λ n. is_enclosed (take (length bs - i - i) (drop n bs))) same
          ∙ no-lead (length bs - i - i) (drop (leading bs) bs) (lead-drop (leading bs) bs (omega arith) ∙ omega arith)
          ∙ grind (arith, nat_tests, room.0, same)
    ]
  where
    below-or-at : (a b : ℕ) → a ≤ b → (a < b) ⊎ (a ≡ b)
    below-or-at a b h = grind arith

take-front : (n m : ℕ) (xs : List ℕ) → n ≤ m → take n (take m xs) ≡ take n xs
take-front zero m xs h = refl
take-front (suc n) m [] h = ap (take (suc n)) (take-none m)
take-front (suc n) zero (x ∷ xs) h = absurd (omega (arith, h))
take-front (suc n) (suc m) (x ∷ xs) h = ap (λ ys. x ∷ ys) (take-front n m xs (omega (arith, h)))

drop-first : (m : ℕ) (xs : List ℕ) → drop 1 (take (suc m) xs) ≡ take m (drop 1 xs)
drop-first m [] = sym (take-none m)
drop-first m (x ∷ xs) = refl

-- without one pair more
inner-next : (i : ℕ) (bs : List ℕ) → suc i + suc i ≤ length bs → without_last (drop 1 (inner i bs)) ≡ inner (suc i) bs
inner-next i bs h =
    let n = length bs - suc i - suc i in
    let q : length bs - i - i ≡ suc (suc n) = omega (arith, h) in
    let ys = drop (suc i) bs in
    let k : i + 1 ≡ suc i = omega arith in
    let front : drop 1 (inner i bs) ≡ take (suc n) ys =
    ap (λ m. drop 1 (take m (drop i bs))) q ∙ drop-first (suc n) (drop i bs) ∙ ap (take (suc n)) (drop-drop 1 i bs ∙ ap (λ m. drop m bs) k) in
    let size : length (take (suc n) ys) ≡ suc n = length-take-le (suc n) ys (omega (arith, length-drop (suc i) bs, h)) in
    let less : length (take (suc n) ys) - 1 ≡ n = omega (arith, size) in
    ap without_last front ∙ ap (λ m. take m (take (suc n) ys)) less ∙ take-front n (suc n) ys (omega arith)

peel : (bs : List ℕ) (fuel i : ℕ) → i ≤ pairs bs → pairs bs - i ≤ fuel → peeled_within fuel (inner i bs) ≡ inner (pairs bs) bs
peel bs zero i h f = ap (λ n. inner n bs) (omega (arith, h, f))
peel bs (suc fuel) i h f = grind (arith, nat_tests, enclosed i bs, inner-next i bs, peel bs fuel (suc i), pairs-room bs)

-- without all of them
pub peeled-is : (bs : List ℕ) → peeled bs ≡ inner (pairs bs) bs
peeled-is bs =
    let room = pairs-room bs in
    let all : inner 0 bs ≡ bs = take_all (length bs - 0 - 0) bs (omega arith) in
    ap (peeled_within (length bs)) (sym all) ∙ peel bs (length bs) 0 (omega arith) (omega (arith, room.1))

pub peeled-size : (bs : List ℕ) → length (peeled bs) ≡ length bs - pairs bs - pairs bs
peeled-size bs =
    let room = pairs-room bs in
    ap length (peeled-is bs) ∙ length-take-le (length bs - pairs bs - pairs bs) (drop (pairs bs) bs) (omega (arith, room.1, length-drop (pairs bs) bs))
