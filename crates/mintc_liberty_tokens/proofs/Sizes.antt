-- A piece has at least one byte, and lies within the text.
use Rattle.std.proofs.Common.{◌≡◌, ℕ, ◌+◌, ◌<◌, ◌≤◌, Bool, true, false, ◌&&◌, ◌||◌, ◌==◌, List, [], ◌∷◌, length, get_or, drop, Option, Some, None, IfSome, refl, sym, ap, ◌∙◌, arith, length-drop, true-eqb, true≢false}
use Rattle.mintc_text_scan.specs.Bytes.{is_white, string_size, comment_size}
use Rattle.mintc_text_scan.proofs.SharedSizes.{either, Ends, string-within, comment-within}
use Rattle.mintc_text_scan.proofs.SharedTokenLaws.{Fits}
use Rattle.mintc_liberty_tokens.specs.Tokens.{Token, is_sign, is_joint, ends_word, word_size, word_piece, string_piece, comment_piece, slash_piece, backslash_piece, sign_of, sign_piece, piece_of}

word-within : (bs : List ℕ) → word_size bs ≤ length bs
word-within [] = omega arith
word-within (b ∷ bs) =
    let more = word-within bs in
    either (λ n. n ≤ length (b ∷ bs)) (ends_word b || is_joint b bs) _ _ (λ _. omega arith) (λ _. omega arith)

abbrev pub stops : List ℕ → Bool
stops bs = ends_word (get_or bs 0 0) || is_joint (get_or bs 0 0) (drop 1 bs)

pub word-fits : (bs : List ℕ) → 0 < length bs → stops bs ≡ false → Fits bs (word_piece bs)
word-fits [] h e = absurd (omega arith)
word-fits (b ∷ bs) h e = (some, word-within (b ∷ bs))
  where
    some : 0 < word_size (b ∷ bs)
    some = either (λ n. 0 < n) (ends_word b || is_joint b bs) _ _ (λ f. absurd (true≢false (sym f ∙ e))) (λ _. omega arith)

string-fits : (bs : List ℕ) → 0 < length bs → (o : Option ℕ) → IfSome o (λ n. n < 0 + length (drop 1 bs)) → Fits bs (string_piece (drop 1 bs) o)
string-fits bs h None e = (omega arith, omega (arith, length-drop 1 bs))
string-fits bs h (Some n) e = (omega arith, omega (arith, length-drop 1 bs, e))

comment-fits : (bs : List ℕ) (o : Option ℕ) → Fits bs (word_piece bs) → Ends (length bs) o → Fits bs (comment_piece bs o)
comment-fits bs None w h = w
comment-fits bs (Some n) w h = h

slash-fits : (bs : List ℕ) → 0 < length bs → (get_or bs 0 0 == 47) ≡ true → Fits bs (slash_piece bs)
slash-fits bs h e = comment-fits bs (comment_size bs) (word-fits bs h (ap (λ b. ends_word b || is_joint b (drop 1 bs)) (true-eqb _ 47 (sym e)))) (comment-within bs e)

-- the second byte is there
second-some : (bs : List ℕ) → (get_or bs 1 0 == 10) ≡ true → 2 ≤ length bs
second-some [] e = absurd (omega (arith, true-eqb 0 10 (sym e)))
second-some (a ∷ []) e = absurd (omega (arith, true-eqb 0 10 (sym e)))
second-some (a ∷ b ∷ bs) e = omega arith

second : (bs : List ℕ) → get_or (drop 1 bs) 0 0 ≡ get_or bs 1 0
second [] = refl
second (a ∷ bs) = refl

backslash-fits : (bs : List ℕ) → 0 < length bs → (get_or bs 0 0 == 92) ≡ true → Fits bs (backslash_piece bs)
backslash-fits bs h e =
    either (Fits bs) (get_or bs 1 0 == 10) _ _
    (λ f. let two = second-some bs f in (omega arith, omega (arith, two)))
    (λ f. word-fits bs h (ap (λ b. ends_word b || is_joint b (drop 1 bs)) (true-eqb _ 92 (sym e)) ∙ ap (λ b. b == 10) (second bs) ∙ f))

-- a byte that is no sign
pub no-sign : (b : ℕ) → sign_of b ≡ None → is_sign b ≡ false
no-sign b =
    either (λ o. o ≡ None → is_sign b ≡ false) (b == 40) _ _ (λ _ h. absurd (cc))
    (λ e0. either (λ o. o ≡ None → is_sign b ≡ false) (b == 41) _ _ (λ _ h. absurd (cc))
    (λ e1. either (λ o. o ≡ None → is_sign b ≡ false) (b == 123) _ _ (λ _ h. absurd (cc))
    (λ e2. either (λ o. o ≡ None → is_sign b ≡ false) (b == 125) _ _ (λ _ h. absurd (cc))
    (λ e3. either (λ o. o ≡ None → is_sign b ≡ false) (b == 58) _ _ (λ _ h. absurd (cc))
    (λ e4. either (λ o. o ≡ None → is_sign b ≡ false) (b == 59) _ _ (λ _ h. absurd (cc))
    (λ e5. either (λ o. o ≡ None → is_sign b ≡ false) (b == 44) _ _ (λ _ h. absurd (cc))
    (λ e6 _. none-of (b == 40) (b == 41) (b == 123) (b == 125) (b == 58) (b == 59) (b == 44) e0 e1 e2 e3 e4 e5 e6)))))))
  where
    none-of : (a b c d e f g : Bool) → a ≡ false → b ≡ false → c ≡ false → d ≡ false → e ≡ false → f ≡ false → g ≡ false → (a || b || c || d || e || f || g) ≡ false
    none-of a b c d e f g h0 h1 h2 h3 h4 h5 h6 = rw (h0, h1, h2, h3, h4, h5, h6) refl

-- what else begins a word
pub inner-byte : (w a b c d : Bool) → w ≡ false → a ≡ false → b ≡ false → c ≡ false → ((w || a || b) || (c && d)) ≡ false
inner-byte w a b c d e f g h = rw (e, f, g, h) refl

sign-fits : (bs : List ℕ) → 0 < length bs → (o : Option Token) → (o ≡ None → stops bs ≡ false) → Fits bs (sign_piece bs o)
sign-fits bs h None e = word-fits bs h (e refl)
sign-fits bs h (Some t) e = (omega arith, omega arith)

pub piece-fits : (bs : List ℕ) → 0 < length bs → Fits bs (piece_of bs)
unfolding piece_of
piece-fits bs h =
    let b = get_or bs 0 0 in
    let one : (1 ≤ 1) × (1 ≤ length bs) = (omega arith, omega arith) in
    either (Fits bs) (is_white b) _ _ (λ _. one)
    (λ e. either (Fits bs) (b == 34) _ _ (λ _. string-fits bs h (string_size false 0 (drop 1 bs)) (string-within false 0 (drop 1 bs)))
    (λ g. either (Fits bs) (b == 47) _ _ (λ j. slash-fits bs h j)
    (λ _. either (Fits bs) (b == 92) _ _ (λ j. backslash-fits bs h j)
    (λ k. sign-fits bs h (sign_of b) (λ n. inner-byte (is_white b) (is_sign b) (b == 34) (b == 92) (get_or (drop 1 bs) 0 0 == 10) e (no-sign b n) g k)))))
