-- How often something comes in a list.
use Rattle.std.proofs.Common.{◌≡◌, ◌≢◌, ℕ, zero, suc, ◌+◌, ◌-◌, ◌<◌, ◌≤◌, nat_eq, nat_le, nat_lt, Bool, true, false, ◌&&◌, ◌||◌, cond, List, [], ◌∷◌, ◌++◌, map, reverse, refl, sym, ap, subst, arith}
use Rattle.std.specs.List.{AllByRecursion, AllPairs, list_any, range_with_len}
use Rattle.std.proofs.lemmas.Bool.Decides.{nat_tests}
use Rattle.std.proofs.lemmas.List.Kept.{AllPairs-cons}
use Rattle.std.proofs.lemmas.List.Elements.{All-from_recursion}
use mathlib.Core.List.{reverse-cons}
use Rattle.mintc_netlist.specs.Again.{comes_again}

abbrev pub tally : Bool → ℕ
tally b = cond b 1 0

-- how many of some things pass a test
abbrev pub how_many : {X : Type 0} → (X → Bool) → List X → ℕ
how_many test [] = 0
how_many test (x ∷ xs) = tally (test x) + how_many test xs

pub how_many-append : {X : Type 0} (test : X → Bool) (xs ys : List X) → how_many test (xs ++ ys) ≡ how_many test xs + how_many test ys
how_many-append test [] ys = omega arith
how_many-append test (x ∷ xs) ys = let more = how_many-append test xs ys in omega (arith, more)

pub how_many-map : {X Y : Type 0} (test : Y → Bool) (f : X → Y) (xs : List X) → how_many test (map f xs) ≡ how_many (λ x. test (f x)) xs
how_many-map test f [] = refl
how_many-map test f (x ∷ xs) = ap (λ (n : ℕ). tally (test (f x)) + n) (how_many-map test f xs)

how_many-same : {X : Type 0} (test other : X → Bool) (xs : List X) → ((x : X) → test x ≡ other x) → how_many test xs ≡ how_many other xs
how_many-same test other [] same = refl
how_many-same test other (x ∷ xs) same = let here = ap tally (same x) in let more = how_many-same test other xs same in omega (arith, here, more)

pub how_many-reverse : {X : Type 0} (test : X → Bool) (xs : List X) → how_many test (reverse xs) ≡ how_many test xs
how_many-reverse test [] = refl
how_many-reverse test (x ∷ xs) =
    let turned = ap (how_many test) (reverse-cons x xs) in
    let parts = how_many-append test (reverse xs) (x ∷ []) in
    let more = how_many-reverse test xs in
    omega (arith, turned, parts, more)

tally_weaker : (b c : Bool) → (b ≡ true → c ≡ true) → tally b ≤ tally c
tally_weaker false c h = omega arith
tally_weaker true c h = let e = ap tally (h refl) in omega (arith, e)

pub how_many-weaker : {X : Type 0} (test other : X → Bool) (xs : List X) → ((x : X) → test x ≡ true → other x ≡ true) → how_many test xs ≤ how_many other xs
how_many-weaker test other [] h = omega arith
how_many-weaker test other (x ∷ xs) h = let here = tally_weaker (test x) (other x) (h x) in let more = how_many-weaker test other xs h in omega (arith, here, more)

-- in a list where nothing comes again
or_left : (a b : Bool) → (a || b) ≡ false → a ≡ false
or_left true b h = h
or_left false b h = refl

or_right : (a b : Bool) → (a || b) ≡ false → b ≡ false
or_right true b h = cc
or_right false b h = h

none_many : {X : Type 0} (test : X → Bool) (xs : List X) → list_any test xs ≡ false → how_many test xs ≡ 0
none_many test [] h = refl
none_many test (x ∷ xs) h =
    let here = ap tally (or_left (test x) (list_any test xs) h) in
    let more = none_many test xs (or_right (test x) (list_any test xs) h) in
    omega (arith, here, more)

seen_by : {X : Type 0} (same : X → X → Bool) → ((a b : X) → same a b ≡ true → a ≡ b) → (p x : X) (seen : List X) (b : Bool) → same p x ≡ b → how_many (same x) seen ≡ 0 → how_many (same p) seen ≤ 1 →
    tally b + how_many (same p) seen ≤ 1
seen_by same means p x seen true e none once = let zero_here = subst (λ y. how_many (same y) seen ≡ 0) (sym (means p x e)) none in omega (arith, zero_here)
seen_by same means p x seen false e none once = omega (arith, once)

pub again_once : {X : Type 0} (same : X → X → Bool) → ((a b : X) → same a b ≡ true → a ≡ b) → (p : X) (seen xs : List X) → comes_again same seen xs ≡ false → how_many (same p) seen ≤ 1 →
    how_many (same p) seen + how_many (same p) xs ≤ 1
again_once same means p seen [] h once = omega (arith, once)
again_once same means p seen (x ∷ xs) h once =
    let none = none_many (same x) seen (or_left (list_any (same x) seen) (comes_again same (x ∷ seen) xs) h) in
    let more = again_once same means p (x ∷ seen) xs (or_right (list_any (same x) seen) (comes_again same (x ∷ seen) xs) h) (seen_by same means p x seen (same p x) refl none once) in
    omega (arith, more)

-- a list in which each number comes once at most
nat_self : (n : ℕ) → nat_eq n n ≡ true
nat_self n = grind (arith, nat_tests)

pub same_nat : (a b : ℕ) → nat_eq a b ≡ true → a ≡ b
same_nat a b h = grind (arith, nat_tests)

other_nat : (a b : ℕ) → tally (nat_eq a b) ≡ 0 → a ≢ b
other_nat a b h = λ e. let yes : nat_eq a b ≡ true = subst (λ (n : ℕ). nat_eq a n ≡ true) e (nat_self a) in let one = ap tally yes in omega (arith, one, h)

none_equal : {X : Type 0} (at : X → ℕ) (n : ℕ) (xs : List X) → how_many (λ x. nat_eq n (at x)) xs ≡ 0 → AllByRecursion (λ x. n ≢ at x) xs
none_equal at n [] h = tt
none_equal at n (x ∷ xs) h = (other_nat n (at x) (omega (arith, h)), none_equal at n xs (omega (arith, h)))

pub once_apart : {X : Type 0} (at : X → ℕ) (xs : List X) → ((n : ℕ) → how_many (λ x. nat_eq n (at x)) xs ≤ 1) → AllPairs (λ a b. at a ≢ at b) xs
once_apart at [] once = λ i j d low inside. absurd (omega (arith, inside))
once_apart at (x ∷ xs) once =
    let here = once (at x) in
    let self = ap tally (nat_self (at x)) in
    AllPairs-cons (λ a b. at a ≢ at b) x xs (All-from_recursion (λ y. at x ≢ at y) xs (none_equal at (at x) xs (omega (arith, here, self))))
    (once_apart at xs (λ n. let all = once n in omega (arith, all)))

-- numbers that a list hasn't
pub none_at : {X : Type 0} (P : ℕ → Type 0) (at : X → ℕ) (xs : List X) → ((n : ℕ) → P n → how_many (λ x. nat_eq n (at x)) xs ≡ 0) → AllByRecursion (λ x. P (at x) → ⊥) xs
none_at P at [] none = tt
none_at P at (x ∷ xs) none = (
  λ p. let here = none (at x) p in let self = ap tally (nat_self (at x)) in omega (arith, here, self),
  none_at P at xs (λ n p. let all = none n p in omega (arith, all)),
)

-- One for each number below another, so that what comes at most once from a number on below a further one is said by a sum.
abbrev pub below : ℕ → ℕ → ℕ
below a n = tally (nat_lt n a)

pub below_most : (a n : ℕ) → below a n ≤ 1
below_most a n = by (nat_lt n a)
  where
    by : (b : Bool) → tally b ≤ 1
    by true = omega arith
    by false = omega arith

pub below_rises : (a b n : ℕ) → a ≤ b → below a n ≤ below b n
below_rises a b n h = tally_weaker (nat_lt n a) (nat_lt n b) (λ e. further a b n h e)
  where
    further : (a b n : ℕ) → a ≤ b → nat_lt n a ≡ true → nat_lt n b ≡ true
    further a b n h e = grind (arith, nat_tests)

pub below_next : (a n : ℕ) → tally (nat_eq n a) + below a n ≤ below (a + 1) n
below_next a n = by (nat_eq n a) (nat_lt n a) (nat_lt n (a + 1)) (λ e. grind (arith, nat_tests)) (λ e. grind (arith, nat_tests)) (λ e. grind (arith, nat_tests))
  where
    by : (b c d : Bool) → (b ≡ true → c ≡ false) → (b ≡ true → d ≡ true) → (c ≡ true → d ≡ true) → tally b + tally c ≤ tally d
    by true true d h k l = let e = ap tally (h refl) in omega (arith, e)
    by true false d h k l = let e = ap tally (k refl) in omega (arith, e)
    by false true d h k l = let e = ap tally (l refl) in omega (arith, e)
    by false false d h k l = omega arith

-- one for each number from another one on, below a further one
abbrev pub between : ℕ → ℕ → ℕ → ℕ
between a b n = tally (nat_le a n && nat_lt n b)

pub between_fills : (a b n : ℕ) → a ≤ b → between a b n + below a n ≤ below b n
between_fills a b n h = by (nat_le a n && nat_lt n b) (nat_lt n a) (nat_lt n b) (λ e. grind (arith, nat_tests)) (λ e. grind (arith, nat_tests)) (λ e. grind (arith, nat_tests))
  where
    by : (c d e : Bool) → (c ≡ true → d ≡ false) → (c ≡ true → e ≡ true) → (d ≡ true → e ≡ true) → tally c + tally d ≤ tally e
    by true true e h k l = let no = ap tally (h refl) in omega (arith, no)
    by true false e h k l = let yes = ap tally (k refl) in omega (arith, yes)
    by false true e h k l = let yes = ap tally (l refl) in omega (arith, yes)
    by false false e h k l = omega arith

pub between_there : (a b n : ℕ) → a ≤ n → n < b → between a b n ≡ 1
between_there a b n low high = let yes : (nat_le a n && nat_lt n b) ≡ true = grind (arith, nat_tests) in ap tally yes

-- how many of some numbers are a number, counted from another one
abbrev pub found : ℕ → ℕ → List ℕ → ℕ
found n b xs = how_many (λ at. nat_eq n (b + at)) xs

-- numbers below a size that come once at most
less_shift : (n b at : ℕ) → b ≤ n → nat_eq n (b + at) ≡ nat_eq (n - b) at
less_shift n b at h = by (nat_eq n (b + at)) (nat_eq (n - b) at) (λ e. grind (arith, nat_tests)) (λ e. grind (arith, nat_tests))
  where
    by : (c d : Bool) → (c ≡ true → d ≡ true) → (d ≡ true → c ≡ true) → c ≡ d
    by true d h k = sym (h refl)
    by false true h k = sym (sym (k refl))
    by false false h k = refl

found_shift : (n b : ℕ) (xs : List ℕ) → b ≤ n → found n b xs ≡ how_many (nat_eq (n - b)) xs
found_shift n b xs h = how_many-same (λ at. nat_eq n (b + at)) (nat_eq (n - b)) xs (λ at. less_shift n b at h)

none_before : (n b at : ℕ) → n < b → nat_eq n (b + at) ≡ false
none_before n b at h = grind (arith, nat_tests)

all_before : (n b : ℕ) (xs : List ℕ) → n < b → found n b xs ≡ 0
all_before n b [] h = refl
all_before n b (x ∷ xs) h = let here = ap tally (none_before n b x h) in let more = all_before n b xs h in omega (arith, here, more)

pub fills : (n b size : ℕ) (xs : List ℕ) → ((p : ℕ) → how_many (nat_eq p) xs ≤ 1) → ((p : ℕ) → size ≤ p → how_many (nat_eq p) xs ≡ 0) → found n b xs + below b n ≤ below (b + size) n
fills n b size xs once none = by (nat_lt n b) refl
  where
    inner : (c : Bool) → nat_lt n (b + size) ≡ c → b ≤ n → how_many (nat_eq (n - b)) xs ≤ tally c
    inner true e h = once (n - b)
    inner false e h = let past : size ≤ n - b = grind (arith, nat_tests) in let zero_there = none (n - b) past in omega (arith, zero_there)

    by : (c : Bool) → nat_lt n b ≡ c → found n b xs + tally c ≤ below (b + size) n
    by true e =
        let early : n < b = grind (arith, nat_tests) in
        let rises = below_rises b (b + size) n (omega arith) in
        let none_here = all_before n b xs early in
        let one = ap tally e in
        omega (arith, rises, none_here, one)
    by false e =
        let late : b ≤ n = grind (arith, nat_tests) in
        let shifted = found_shift n b xs late in
        let there = inner (nat_lt n (b + size)) refl late in
        omega (arith, shifted, there)

-- an index comes once in a range
range_fills : (a n j : ℕ) → how_many (nat_eq j) (range_with_len a n) + below a j ≤ below (a + n) j
range_fills a zero j = let rises = below_rises a (a + 0) j (omega arith) in omega (arith, rises)
range_fills a (suc n) j =
    let next = below_next a j in
    let more = range_fills (a + 1) n j in
    let last : (a + 1) + n ≡ a + suc n = omega arith in
    let same = ap (λ (k : ℕ). below k j) last in
    omega (arith, next, more, same)

pub range_once : (a n j : ℕ) → how_many (nat_eq j) (range_with_len a n) ≤ 1
range_once a n j = let all = range_fills a n j in let most = below_most (a + n) j in omega (arith, all, most)
