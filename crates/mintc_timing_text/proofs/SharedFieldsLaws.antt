-- The fields of a line.
use Rattle.std.proofs.Common.{◌≡◌, ℕ, ℤ, pos, negsuc, neg_ℤ, ◌≤ℤ◌, suc, ◌<◌, ◌≤◌, ◌+◌, ◌-◌, add-one, ◌^◌, ◌&&◌, Bool, true, false, if◌then◌else◌, List, [], ◌∷◌, ◌++◌, length, get_or, take, drop, refl, ap, ◌∙◌, sym, arith, eqb, leb, decimal, All, length-take, lit<}
use Rattle.std.proofs.lemmas.Fmt.{decimal_is_IsNumeral, decimal_nonempty}
use Rattle.std.proofs.lemmas.Grind.{common_steps, elements}
use Rattle.std.proofs.lemmas.Int.{ints}
use Rattle.std.proofs.lemmas.Bool.{ne_eqb}
use Rattle.std.proofs.lemmas.Bool.Decides.{nat_tests}
use Rattle.std.proofs.lemmas.List.{get_or-take, take_rest}
use Rattle.std.proofs.lemmas.List.Elements.{All-from_get_or, All-head, All-tail, All-cons, All-nil}
use Rattle.std.proofs.lemmas.List.Splits.{slice_split_none, slice_split_at, join_with_byte-slice_split, length-slice_split}
use Rattle.std.proofs.Math.Seq.{split_at}
use Rattle.mintc_text.specs.Lines.{words, numeral_of, IsGraphic, IsWithin}
use Rattle.mintc_text.specs.Words.{IsShort}
use Rattle.std.proofs.lemmas.Int.Digits.{digits_value-lt}
use Rattle.std.proofs.Math.Nat.{pow-le-pow_right}
use Rattle.std.specs.Str.Parse.{AllDigits, digits_value}
use Rattle.mintc_text.proofs.SharedNumeralsLaws.{IsPlain, plain_from_decimal, digit_here, decimal_from_plain}
use Rattle.mintc_timing_text.specs.Fields.{fields_of, plain, plain_line}

-- ---- a line cut at its spaces

pub no_space : (c : ℕ) (bytes : List ℕ) → ((k : ℕ) → k < length bytes → get_or bytes k 0 ≡ c → ⊥) → All (λ b. eqb b c ≡ false) bytes
no_space c bytes none = All-from_get_or (λ b. eqb b c ≡ false) bytes 0 (λ k h. ne_eqb (get_or bytes k 0) c (none k h))

pub fields_last : (bytes : List ℕ) → ((k : ℕ) → k < length bytes → get_or bytes k 0 ≡ 32 → ⊥) → fields_of bytes ≡ bytes ∷ []
fields_last bytes none = slice_split_none (λ b. eqb b 32) bytes (no_space 32 bytes none)

front_free : (bytes : List ℕ) (at : ℕ) → at < length bytes → ((k : ℕ) → k < at → get_or bytes k 0 ≡ 32 → ⊥) → (k : ℕ) → k < length (take at bytes) → get_or (take at bytes) k 0 ≡ 32 → ⊥
front_free bytes at h none k within is = grind (arith, common_steps, none k)

-- where a space comes first: the word before it, and the words of what is left past it
pub fields_passed : (bytes : List ℕ) (at : ℕ) → at < length bytes → ((k : ℕ) → k < at → get_or bytes k 0 ≡ 32 → ⊥) → get_or bytes at 0 ≡ 32 →
    fields_of bytes ≡ take at bytes ∷ fields_of (take (length bytes - (at + 1)) (drop (at + 1) bytes))
fields_passed bytes at h none here =
    let left : drop (suc at) bytes ≡ take (length bytes - (at + 1)) (drop (at + 1) bytes) = ap (λ n. drop n bytes) (sym (add-one at)) ∙ sym (take_rest bytes (at + 1)) in
    ap fields_of (split_at bytes at 0 h ∙ ap (λ (b : ℕ). take at bytes ++ b ∷ drop (suc at) bytes) here)
    ∙ slice_split_at (λ b. eqb b 32) (take at bytes) 32 (drop (suc at) bytes) (no_space 32 (take at bytes) (front_free bytes at h none)) refl
    ∙ ap (λ w. take at bytes ∷ fields_of w) left

pub ruleset cuts = (fields_last, fields_passed)

-- the words of a line, joined again, are the line
pub words_fields : (line : List ℕ) → words (fields_of line) ≡ line
words_fields line = join_with_byte-slice_split 32 line

-- ---- words whose bytes can be seen

pub and_parts : (a b : Bool) → (a && b) ≡ true → (a ≡ true) × (b ≡ true)
and_parts true b h = (refl, h)
and_parts false b h = absurd (cc h)

pub and_both : (a b : Bool) → a ≡ true → b ≡ true → (a && b) ≡ true
and_both a b h g = rw (h, g) refl

pub plain_graphic : (w : List ℕ) → All IsGraphic w → plain w ≡ true
plain_graphic [] h = refl
plain_graphic (b ∷ bs) h =
    let here = All-head IsGraphic b bs h in
    and_both (leb 33 b && leb b 126) (plain bs) (grind (arith, nat_tests)) (plain_graphic bs (All-tail IsGraphic b bs h))

-- a plain word has no byte below 33
pub plain_free : (c : ℕ) (w : List ℕ) → c < 33 → plain w ≡ true → All (λ b. eqb b c ≡ false) w
plain_free c [] low h = All-nil (λ b. eqb b c ≡ false)
plain_free c (b ∷ bs) low h =
    let p = and_parts (leb 33 b && leb b 126) (plain bs) h in
    let first = p.0 in
    All-cons (λ x. eqb x c ≡ false) b bs (grind (arith, nat_tests)) (plain_free c bs low p.1)

-- such words are the words of the line that they make
pub fields-words : (ws : List (List ℕ)) → plain_line ws ≡ true → fields_of (words ws) ≡ ws
fields-words [] h = absurd (cc h)
fields-words (w ∷ []) h = slice_split_none (λ b. eqb b 32) w (plain_free 32 w (omega arith) h)
fields-words (w ∷ x ∷ ws) h =
    let p = and_parts (plain w) (plain_line (x ∷ ws)) h in
    slice_split_at (λ b. eqb b 32) w 32 (words (x ∷ ws)) (plain_free 32 w (omega arith) p.0) refl
    ∙ ap (λ (l : List (List ℕ)). w ∷ l) (fields-words (x ∷ ws) p.1)

-- ---- numerals

digits_graphic : (n : ℕ) → n < 10 ^ 19 → All IsGraphic (decimal n)
digits_graphic n small =
    let digits : IsPlain (decimal n) = plain_from_decimal (decimal n) n small refl in
    All-from_get_or IsGraphic (decimal n) 0 (λ k h. let d = digit_here (decimal n) k digits h in (omega (arith, d), omega (arith, d)))

pub plain_number : (n : ℕ) → n < 10 ^ 19 → plain (decimal n) ≡ true
plain_number n small = plain_graphic (decimal n) (digits_graphic n small)

pub plain_numeral : (z : ℤ) → IsShort z → plain (numeral_of z) ≡ true
plain_numeral (pos n) short = plain_number n (omega (arith, ints, short.1))
plain_numeral (negsuc n) short = plain_number (suc n) (omega (arith, ints, short.0))

-- the number that a short numeral is read back as
unfoldable pub value : List ℕ → ℤ
value word = if eqb (get_or word 0 0) 45 then neg_ℤ (pos (digits_value 10 (drop 1 word))) else pos (digits_value 10 word)

pub count_of : (n : ℕ) → n < 10 ^ 19 → (decimal n ≡ decimal n) × (value (decimal n) ≡ pos n)
unfolding value
count_of n small =
    let first = digit_here (decimal n) 0 (plain_from_decimal (decimal n) n small refl) (decimal_nonempty n (omega arith)) in
    (refl, rw (ne_eqb (get_or (decimal n) 0 0) 45 (λ e. omega (arith, first, e))) (ap pos (decimal_is_IsNumeral n (omega arith)).1))

pub value_of : (z : ℤ) → IsShort z → (numeral_of z ≡ numeral_of z) × (value (numeral_of z) ≡ z)
unfolding value
value_of (pos n) short = count_of n (omega (arith, ints, short.1))
value_of (negsuc n) short = (refl, ap (λ k. neg_ℤ (pos k)) (decimal_is_IsNumeral (suc n) (omega (arith, ints, short.0))).1)

pub ruleset read_back = (ints, value_of, count_of)

-- a number that isn't long has a short numeral
pub short : (least most z : ℤ) → negsuc 999999999999999998 ≤ℤ least → most ≤ℤ pos 999999999999999999 → IsWithin least most z → IsShort z
short least most z low high within = (omega (arith, ints, within.0), omega (arith, ints, within.1))

-- words that can be seen
pub ruleset seen = (ints, plain_graphic, plain_number, plain_numeral)

pub fields_some : (bytes : List ℕ) → fields_of bytes ≡ [] → ⊥
fields_some bytes h = omega (arith, ap length h, length-slice_split (λ b. eqb b 32) bytes)

-- digits at the front of a line, of which the first is no zero before others, are the numeral of a number and have no space
pub record IsFront (rest : List ℕ) (end value : ℕ) : Type 0 where
  pub small : value < 10 ^ 17
  pub word : take end rest ≡ decimal value
  pub free : (k : ℕ) → k < end → get_or rest k 0 ≡ 32 → ⊥

pub front_number : (rest : List ℕ) (end value : ℕ) → end ≤ length rest → 1 ≤ end → end ≤ 17 → (get_or rest 0 0 ≡ 48 → end ≡ 1) →
    AllDigits 10 (take end rest) → value ≡ digits_value 10 (take end rest) → IsFront rest end value
front_number rest end value within some few first digits is =
    let ds = take end rest in
    let long : length ds ≡ end = omega (arith, length-take end rest) in
    let same : (k : ℕ) → k < end → get_or ds k 0 ≡ get_or rest k 0 = λ k low. get_or-take end rest k 0 low in
    let plain : IsPlain ds = record { some = omega arith; few = omega arith; first = λ e. long ∙ first (sym (same 0 (omega arith)) ∙ e); digits = digits } in
    record {
      small = omega (arith, is, digits_value-lt 10 ds digits, pow-le-pow_right {n = 10} (lit< tt) {i = length ds} {j = 17} (omega arith));
      word = decimal_from_plain ds plain ∙ ap decimal (sym is);
      free = λ k low e. let d = digit_here ds k plain (omega arith) in omega (arith, d, same k low, e);
    }

-- a word at the front of a line, byte by byte
pub front_word : (rest word : List ℕ) → length word ≤ length rest → ((k : ℕ) → k < length word → (get_or rest k 0 ≡ get_or word k 0) × (get_or rest k 0 ≡ 32 → ⊥)) →
    take (length word) rest ≡ word
front_word rest word within each = grind (arith, elements)
