-- The bits of a range, counted and placed.
use Rattle.std.proofs.Common.{◌≡◌, ◌≢◌, get_or, ℕ, suc, zero, ◌+◌, ◌-◌, ◌<◌, ◌≤◌, Bool, true, false, not, ◌&&◌, ◌||◌, cond, nat_le, nat_eq, List, [], ◌∷◌, ◌++◌, length, reverse, Option, Some, None, min, max, refl, sym, ap, ◌∙◌, arith, if◌then◌else◌, IfSome}
use Rattle.std.specs.List.{range_with_len, list_any, position_or_len}
use Rattle.std.proofs.lemmas.Bool.Decides.{nat_tests}
use Rattle.std.proofs.lemmas.List.{length-reverse, length-map, get_or-reverse}
use Rattle.std.proofs.lemmas.List.FromFn.{length-range_with_len, get_or-range_with_len}
use Rattle.std.proofs.lemmas.List.Folds.{position_or_len_push, list_any-append}
use Rattle.std.specs.Int.{abs_diff}
use mathlib.Core.List.{reverse-cons}
use Rattle.mintc_netlist.specs.declared.expression.Span.{Span}
use Rattle.mintc_netlist.specs.Nets.{bit_of, bits_of, indexes}
use Rattle.mintc_netlist.specs.Expressions.{is_inside}
use Rattle.mintc_netlist_nets.specs.Tables.{bit_count, offset_of}

-- how many indexes a range has
count_by : (a b : ℕ) (t : Bool) → nat_le b a ≡ t → length (if t then range_with_len b (a - b + 1) else reverse (range_with_len a (b - a + 1))) ≡ abs_diff a b + 1
count_by a b true h = length-range_with_len b (a - b + 1) ∙ grind (arith, nat_tests)
count_by a b false h = length-reverse (range_with_len a (b - a + 1)) ∙ length-range_with_len a (b - a + 1) ∙ grind (arith, nat_tests)

pub index_count : (s : Span) → length (indexes s) ≡ abs_diff s.msb s.lsb + 1
index_count s = count_by s.msb s.lsb (nat_le s.lsb s.msb) refl

pub bits_count : (name : List ℕ) (span : Option Span) → length (bits_of name span) ≡ bit_count span
bits_count name None = refl
bits_count name (Some s) = length-map (indexes s) (λ i. bit_of name (Some i))

-- places in numbers that ascend by one
up_by : (i a q : ℕ) (b : Bool) → nat_eq i a ≡ b → a ≤ i → (b ≡ false → q ≡ i - (a + 1)) → cond (not b) (1 + q) 0 ≡ i - a
up_by i a q true e low h = grind (arith, nat_tests)
up_by i a q false e low h = let next = h refl in let other : i ≢ a = grind (arith, nat_tests) in omega arith

not_next : (i a : ℕ) → nat_eq i a ≡ false → a ≤ i → a + 1 ≤ i
not_next i a e low = grind (arith, nat_tests)

pub place_up : (i a n : ℕ) → a ≤ i → i < a + n → position_or_len (nat_eq i) (range_with_len a n) ≡ i - a
place_up i a zero low high = absurd (omega arith)
place_up i a (suc n) low high = up_by i a (position_or_len (nat_eq i) (range_with_len (a + 1) n)) (nat_eq i a) refl low (λ e. place_up i (a + 1) n (not_next i a e low) (omega arith))

-- and in the same numbers from the back
push_by : (q n : ℕ) → q ≡ n → cond (nat_eq q n) (n + 1) q ≡ n + 1
push_by q n e = grind (arith, nat_tests)

turned : (a n : ℕ) → reverse (range_with_len a (suc n)) ≡ reverse (range_with_len (a + 1) n) ++ a ∷ []
turned a n = reverse-cons a (range_with_len (a + 1) n)

turned_count : (a n : ℕ) → length (reverse (range_with_len a n)) ≡ n
turned_count a n = length-reverse (range_with_len a n) ∙ length-range_with_len a n

place_turned : (i a n : ℕ) → position_or_len (nat_eq i) (reverse (range_with_len a (suc n)))
    ≡ cond (nat_eq (position_or_len (nat_eq i) (reverse (range_with_len (a + 1) n))) n) (n + cond (nat_eq i a) 0 1) (position_or_len (nat_eq i) (reverse (range_with_len (a + 1) n)))
place_turned i a n =
    ap (position_or_len (nat_eq i)) (turned a n)
    ∙ position_or_len_push (nat_eq i) (reverse (range_with_len (a + 1) n)) a
    ∙ ap (λ (k : ℕ). cond (nat_eq (position_or_len (nat_eq i) (reverse (range_with_len (a + 1) n))) k) (k + cond (nat_eq i a) 0 1) (position_or_len (nat_eq i) (reverse (range_with_len (a + 1) n)))) (turned_count (a + 1) n)

absent_by : (i a q n : ℕ) → i < a → q ≡ n → cond (nat_eq q n) (n + cond (nat_eq i a) 0 1) q ≡ suc n
absent_by i a q n low e = grind (arith, nat_tests)

absent_down : (i a n : ℕ) → i < a → position_or_len (nat_eq i) (reverse (range_with_len a n)) ≡ n
absent_down i a zero low = refl
absent_down i a (suc n) low = place_turned i a n ∙ absent_by i a (position_or_len (nat_eq i) (reverse (range_with_len (a + 1) n))) n low (absent_down i (a + 1) n (omega arith))

first_by : (i a q n : ℕ) → nat_eq i a ≡ true → q ≡ n → cond (nat_eq q n) (n + cond (nat_eq i a) 0 1) q ≡ (a + n) - i
first_by i a q n here e = grind (arith, nat_tests)

later_by : (i a q n : ℕ) → nat_eq i a ≡ false → a ≤ i → i < a + suc n → q ≡ (a + n) - i → cond (nat_eq q n) (n + cond (nat_eq i a) 0 1) q ≡ (a + n) - i
later_by i a q n other low high e = grind (arith, nat_tests)

down_by : (i a n : ℕ) (b : Bool) → nat_eq i a ≡ b → a ≤ i → i < a + suc n →
    (b ≡ true → position_or_len (nat_eq i) (reverse (range_with_len (a + 1) n)) ≡ n) → (b ≡ false → position_or_len (nat_eq i) (reverse (range_with_len (a + 1) n)) ≡ (a + n) - i) →
    cond (nat_eq (position_or_len (nat_eq i) (reverse (range_with_len (a + 1) n))) n) (n + cond (nat_eq i a) 0 1) (position_or_len (nat_eq i) (reverse (range_with_len (a + 1) n))) ≡ (a + n) - i
down_by i a n true e low high h k = first_by i a (position_or_len (nat_eq i) (reverse (range_with_len (a + 1) n))) n e (h refl)
down_by i a n false e low high h k = later_by i a (position_or_len (nat_eq i) (reverse (range_with_len (a + 1) n))) n e low high (k refl)

same_number : (i a : ℕ) → nat_eq i a ≡ true → i < a + 1
same_number i a e = grind (arith, nat_tests)

pub place_down : (i a n : ℕ) → a ≤ i → i < a + suc n → position_or_len (nat_eq i) (reverse (range_with_len a (suc n))) ≡ (a + n) - i
place_down i a zero low high = place_turned i a 0 ∙ down_by i a 0 (nat_eq i a) refl low high (λ e. refl) (λ e. omega arith)
place_down i a (suc n) low high =
    let more : (a + 1) + n ≡ a + suc n = omega arith in
    place_turned i a (suc n)
    ∙ down_by i a (suc n) (nat_eq i a) refl low high (λ e. absent_down i (a + 1) (suc n) (same_number i a e))
    (λ e. place_down i (a + 1) n (not_next i a e low) (omega arith) ∙ ap (λ k. k - i) more)

-- where a range has an index
inside_up : (i a b : ℕ) → nat_le b a ≡ true → (nat_le (min a b) i && nat_le i (max a b)) ≡ true → (b ≤ i) × (i < b + (a - b + 1)) × (i - b ≡ abs_diff i b)
inside_up i a b up h = (grind (arith, nat_tests), grind (arith, nat_tests), grind (arith, nat_tests))

inside_down : (i a b : ℕ) → nat_le b a ≡ false → (nat_le (min a b) i && nat_le i (max a b)) ≡ true → (a ≤ i) × (i < a + suc (b - a)) × ((a + (b - a)) - i ≡ abs_diff i b)
inside_down i a b down h = (grind (arith, nat_tests), grind (arith, nat_tests), grind (arith, nat_tests))

index_by : (i a b : ℕ) (t : Bool) → nat_le b a ≡ t → (nat_le (min a b) i && nat_le i (max a b)) ≡ true →
    position_or_len (nat_eq i) (if t then range_with_len b (a - b + 1) else reverse (range_with_len a (b - a + 1))) ≡ abs_diff i b
index_by i a b true up h = let there = inside_up i a b up h in place_up i b (a - b + 1) there.0 there.1 ∙ there.2
index_by i a b false down h =
    let there = inside_down i a b down h in
    let one : b - a + 1 ≡ suc (b - a) = omega arith in
    ap (λ (n : ℕ). position_or_len (nat_eq i) (reverse (range_with_len a n))) one ∙ place_down i a (b - a) there.0 there.1 ∙ there.2

pub index_place : (s : Span) (i : ℕ) → is_inside s i ≡ true → position_or_len (nat_eq i) (indexes s) ≡ abs_diff i s.lsb
index_place s i h = index_by i s.msb s.lsb (nat_le s.lsb s.msb) refl h

-- an index within a range stands below the count of its bits
pub near_by : (i a b : ℕ) → (nat_le (min a b) i && nat_le i (max a b)) ≡ true → abs_diff i b < abs_diff a b + 1
near_by i a b h = grind (arith, nat_tests)

pub offset_below : (span : Option Span) (index : Option ℕ) → IfSome (offset_of span index) (λ at. at < bit_count span)
offset_below None None = omega arith
offset_below None (Some i) = tt
offset_below (Some s) None = tt
offset_below (Some s) (Some i) = by (is_inside s i) refl
  where
    by : (b : Bool) → is_inside s i ≡ b → IfSome (cond b (Some (abs_diff i s.lsb)) None) (λ at. at < bit_count (Some s))
    by true h = omega (arith, near_by i s.msb s.lsb h, index_count s)
    by false h = tt

-- numbers that a range hasn't
ahead_by : (b c : Bool) → b ≡ false → c ≡ false → (b || c) ≡ false
ahead_by true c h k = cc
ahead_by false c h k = k

none_up : (i a n : ℕ) → ((j : ℕ) → a ≤ j → j < a + n → nat_eq i j ≡ false) → list_any (nat_eq i) (range_with_len a n) ≡ false
none_up i a zero h = refl
none_up i a (suc n) h =
    ahead_by (nat_eq i a) (list_any (nat_eq i) (range_with_len (a + 1) n)) (h a (omega arith) (omega arith)) (none_up i (a + 1) n (λ j low high. h j (omega arith) (omega arith)))

none_down : (i a n : ℕ) → ((j : ℕ) → a ≤ j → j < a + n → nat_eq i j ≡ false) → list_any (nat_eq i) (reverse (range_with_len a n)) ≡ false
none_down i a zero h = refl
none_down i a (suc n) h =
    ap (list_any (nat_eq i)) (turned a n)
    ∙ list_any-append (nat_eq i) (reverse (range_with_len (a + 1) n)) (a ∷ [])
    ∙ ahead_by (list_any (nat_eq i) (reverse (range_with_len (a + 1) n))) (nat_eq i a || false) (none_down i (a + 1) n (λ j low high. h j (omega arith) (omega arith)))
    (ahead_by (nat_eq i a) false (h a (omega arith) (omega arith)) refl)

other_up : (i a b j : ℕ) → nat_le b a ≡ true → (nat_le (min a b) i && nat_le i (max a b)) ≡ false → b ≤ j → j < b + (a - b + 1) → nat_eq i j ≡ false
other_up i a b j up h low high = grind (arith, nat_tests)

other_down : (i a b j : ℕ) → nat_le b a ≡ false → (nat_le (min a b) i && nat_le i (max a b)) ≡ false → a ≤ j → j < a + (b - a + 1) → nat_eq i j ≡ false
other_down i a b j down h low high = grind (arith, nat_tests)

absent_in : (i a b : ℕ) (t : Bool) → nat_le b a ≡ t → (nat_le (min a b) i && nat_le i (max a b)) ≡ false → list_any (nat_eq i) (if t then range_with_len b (a - b + 1) else reverse (range_with_len a (b - a + 1))) ≡ false
absent_in i a b true up h = none_up i b (a - b + 1) (λ j low high. other_up i a b j up h low high)
absent_in i a b false down h = none_down i a (b - a + 1) (λ j low high. other_down i a b j down h low high)

pub index_absent : (s : Span) (i : ℕ) → is_inside s i ≡ false → list_any (nat_eq i) (indexes s) ≡ false
index_absent s i h = absent_in i s.msb s.lsb (nat_le s.lsb s.msb) refl h

-- the index at a place of a range
at_up : (a b k : ℕ) → k < a - b + 1 → get_or (range_with_len b (a - b + 1)) k 0 ≡ b + k
at_up a b k inside = get_or-range_with_len b (a - b + 1) k 0 inside

at_down : (a b k : ℕ) → nat_le b a ≡ false → k < b - a + 1 → get_or (reverse (range_with_len a (b - a + 1))) k 0 ≡ b - k
at_down a b k down inside =
    let n = b - a + 1 in
    let near : k < length (range_with_len a n) = omega (arith, length-range_with_len a n, inside) in
    let back : length (range_with_len a n) - 1 - k < n = omega (arith, length-range_with_len a n, inside) in
    get_or-reverse (range_with_len a n) k 0 near ∙ get_or-range_with_len a n (length (range_with_len a n) - 1 - k) 0 back ∙ at_end a b k (length (range_with_len a n)) (length-range_with_len a n) down inside
  where
    at_end : (a b k m : ℕ) → m ≡ b - a + 1 → nat_le b a ≡ false → k < b - a + 1 → a + (m - 1 - k) ≡ b - k
    at_end a b k m same down inside = grind (arith, nat_tests)

index_at_by : (a b k : ℕ) (t : Bool) → nat_le b a ≡ t → k < length (if t then range_with_len b (a - b + 1) else reverse (range_with_len a (b - a + 1))) →
    get_or (if t then range_with_len b (a - b + 1) else reverse (range_with_len a (b - a + 1))) k 0 ≡ (if t then b + k else b - k)
index_at_by a b k true up inside = at_up a b k (omega (arith, length-range_with_len b (a - b + 1), inside))
index_at_by a b k false down inside = at_down a b k down (omega (arith, length-reverse (range_with_len a (b - a + 1)), length-range_with_len a (b - a + 1), inside))

pub index_up : (s : Span) (k : ℕ) → nat_le s.lsb s.msb ≡ true → k < length (indexes s) → s.lsb + k ≡ get_or (indexes s) k 0
index_up s k up inside = sym (index_at_by s.msb s.lsb k (nat_le s.lsb s.msb) refl inside ∙ ap (λ (t : Bool). if t then s.lsb + k else s.lsb - k) up)

pub index_down : (s : Span) (k : ℕ) → nat_le s.lsb s.msb ≡ false → k < length (indexes s) → s.lsb - k ≡ get_or (indexes s) k 0
index_down s k down inside = sym (index_at_by s.msb s.lsb k (nat_le s.lsb s.msb) refl inside ∙ ap (λ (t : Bool). if t then s.lsb + k else s.lsb - k) down)
