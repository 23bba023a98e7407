-- The first token of a text that begins with one.
use Rattle.std.proofs.Common.{◌≡◌, ℕ, ◌+◌, ◌<◌, ◌≤◌, Bool, true, false, if◌then◌else◌, ◌==◌, List, [], ◌∷◌, ◌++◌, length, get_or, take, drop, refl, sym, ap, ◌∙◌, arith, length-drop, drop-drop, drop_of_length-le, Option, Some, None, true≢false, true-eqb}
use Rattle.mintc_text_scan.specs.Bytes.{is_white, string_size, comment_size}
use Rattle.mintc_text_scan.specs.Pieces.{Piece, passed, token, front_token, tokens_from, is_token, is_settled}
use Rattle.mintc_text_scan.proofs.SharedSizes.{either, byte-some}
use Rattle.mintc_text_scan.proofs.SharedTokenLaws.{turn}
use Rattle.mintc_liberty_tokens.specs.declared.reader.Kind.{Kind}
use Rattle.mintc_liberty_tokens.specs.declared.reader.Kind.TheVariants as kind
use Rattle.mintc_liberty_tokens.specs.Tokens.{Token, opening, closing, left, right, colon, semicolon, comma, word, string, bad, word_piece, string_piece, comment_piece, slash_piece, backslash_piece, sign_of, sign_piece, word_size, piece_of, tokens_of}
use Rattle.mintc_liberty_tokens.specs.Reading.{kind_of, kind_by, token_of, is_sign_kind, word_at, string_at}
use Rattle.mintc_liberty_tokens.proofs.Sizes.{piece-fits}

-- from a piece that is known
pub by_piece : (bs : List ℕ) (p : Piece Token) → 0 < length bs → piece_of bs ≡ p → tokens_of bs ≡ front_token p.token ++ tokens_of (drop p.size bs)
by_piece bs p h e = turn piece_of piece-fits bs h ∙ ap (λ (q : Piece Token). front_token q.token ++ tokens_of (drop q.size bs)) e

byte-is : (bs : List ℕ) (v : ℕ) → (get_or bs 0 0 == v) ≡ true → get_or bs 0 0 ≡ v
byte-is bs v e = true-eqb _ v (sym e)

-- the piece at the front, by its first byte
abbrev piece_by : ℕ → List ℕ → Piece Token
piece_by b bs =
    if is_white b then passed 1
    else (if b == 34 then string_piece (drop 1 bs) (string_size false 0 (drop 1 bs))
    else (if b == 47 then slash_piece bs
    else (if b == 92 then backslash_piece bs
    else sign_piece bs (sign_of b))))

piece-by : (bs : List ℕ) (v : ℕ) → (get_or bs 0 0 == v) ≡ true → piece_of bs ≡ piece_by v bs
unfolding piece_of
piece-by bs v e = ap (λ b. piece_by b bs) (byte-is bs v e)

at-sign : (bs : List ℕ) (v : ℕ) (t : Token) → 0 < v → (get_or bs 0 0 == v) ≡ true → piece_by v bs ≡ token t 1 → tokens_of bs ≡ t ∷ tokens_of (drop 1 bs)
at-sign bs v t s e p = by_piece bs (token t 1) (byte-some bs v s e) (piece-by bs v e ∙ p)

at-quote : (bs : List ℕ) (o : Option ℕ) → (get_or bs 0 0 == 34) ≡ true → string_size false 0 (drop 1 bs) ≡ o →
    tokens_of bs ≡ front_token (string_piece (drop 1 bs) o).token ++ tokens_of (drop (string_piece (drop 1 bs) o).size bs)
at-quote bs o e f = by_piece bs (string_piece (drop 1 bs) o) (byte-some bs 34 (omega arith) e) (piece-by bs 34 e ∙ ap (string_piece (drop 1 bs)) f)

pub at-string : (bs : List ℕ) (n : ℕ) → (get_or bs 0 0 == 34) ≡ true → string_size false 0 (drop 1 bs) ≡ Some n →
    tokens_of bs ≡ string (take n (drop 1 bs)) ∷ tokens_of (drop (n + 2) bs)
at-string bs n e f = at-quote bs (Some n) e f

pub at-bad : (bs : List ℕ) → (get_or bs 0 0 == 34) ≡ true → string_size false 0 (drop 1 bs) ≡ None → tokens_of bs ≡ bad ∷ []
unfolding tokens_from
at-bad bs e f =
    let some = byte-some bs 34 (omega arith) e in
    at-quote bs None e f ∙ ap (λ l. bad ∷ tokens_of l) (drop_of_length-le bs (omega (arith, length-drop 1 bs)))

-- a piece that is passed over is no token
no-token : (p : Piece Token) (n : ℕ) → p ≡ passed n → is_token p.token ≡ true → ⊥
no-token p n e h = true≢false (sym h ∙ ap (λ (q : Piece Token). is_token q.token) e)

slash-word : (bs : List ℕ) (o : Option ℕ) → is_token (comment_piece bs o).token ≡ true → comment_piece bs o ≡ word_piece bs
slash-word bs None h = refl
slash-word bs (Some n) h = absurd (no-token (comment_piece bs (Some n)) n refl h)

abbrev Holds : List ℕ → Piece Token → Type 0
Holds bs p = is_token p.token ≡ true → p ≡ word_piece bs

word-piece : (bs : List ℕ) → sign_of (get_or bs 0 0) ≡ None → (get_or bs 0 0 == 34) ≡ false → is_token (piece_of bs).token ≡ true → piece_of bs ≡ word_piece bs
unfolding piece_of
word-piece bs e g =
    let b = get_or bs 0 0 in
    let H = Holds bs in
    either H (is_white b) _ _ (λ _. λ h. absurd (no-token (passed 1) 1 refl h))
    (λ _. either H (b == 34) _ _ (λ x. absurd (true≢false (sym x ∙ g)))
    (λ _. either H (b == 47) _ _
    (λ _. λ h. slash-word bs (comment_size bs) h)
    (λ _. either H (b == 92) _ _
    (λ _. either H (get_or bs 1 0 == 10) _ _ (λ _. λ h. absurd (no-token (passed 2) 2 refl h)) (λ _. λ h. refl))
    (λ _. λ h. ap (sign_piece bs) e))))

pub at-word : (bs : List ℕ) → 0 < length bs → is_settled piece_of bs ≡ true → sign_of (get_or bs 0 0) ≡ None → (get_or bs 0 0 == 34) ≡ false →
    tokens_of bs ≡ word (take (word_size bs) bs) ∷ tokens_of (drop (word_size bs) bs)
at-word [] h s e g = absurd (omega arith)
at-word (b ∷ bs) h s e g = by_piece (b ∷ bs) (word_piece (b ∷ bs)) h (word-piece (b ∷ bs) e g s)

-- no sign
no-sign : (b : ℕ) → (b == 40) ≡ false → (b == 41) ≡ false → (b == 123) ≡ false → (b == 125) ≡ false → (b == 58) ≡ false → (b == 59) ≡ false → (b == 44) ≡ false → sign_of b ≡ None
no-sign b x0 x1 x2 x3 x4 x5 x6 = rw (x0, x1, x2, x3, x4, x5, x6) refl

-- what comes next is known by the first byte
quote-kind : (bs : List ℕ) (o : Option ℕ) → (get_or bs 0 0 == 34) ≡ true → string_size false 0 (drop 1 bs) ≡ o → kind_of (tokens_of bs) ≡ kind.Text
quote-kind bs None e f = ap kind_of (at-bad bs e f)
quote-kind bs (Some n) e f = ap kind_of (at-string bs n e f)

pub kinds : (bs : List ℕ) → is_settled piece_of bs ≡ true → kind_by bs ≡ kind_of (tokens_of bs)
unfolding tokens_from
kinds [] s = refl
kinds (b ∷ bs) s =
    let P : Kind → Type 0 = λ m. m ≡ kind_of (tokens_of (b ∷ bs)) in
    either P (b == 40) _ _ (λ e. sym (ap kind_of (at-sign (b ∷ bs) 40 opening (omega arith) e refl)))
    (λ x0. either P (b == 41) _ _ (λ e. sym (ap kind_of (at-sign (b ∷ bs) 41 closing (omega arith) e refl)))
    (λ x1. either P (b == 123) _ _ (λ e. sym (ap kind_of (at-sign (b ∷ bs) 123 left (omega arith) e refl)))
    (λ x2. either P (b == 125) _ _ (λ e. sym (ap kind_of (at-sign (b ∷ bs) 125 right (omega arith) e refl)))
    (λ x3. either P (b == 58) _ _ (λ e. sym (ap kind_of (at-sign (b ∷ bs) 58 colon (omega arith) e refl)))
    (λ x4. either P (b == 59) _ _ (λ e. sym (ap kind_of (at-sign (b ∷ bs) 59 semicolon (omega arith) e refl)))
    (λ x5. either P (b == 44) _ _ (λ e. sym (ap kind_of (at-sign (b ∷ bs) 44 comma (omega arith) e refl)))
    (λ x6. either P (b == 34) _ _ (λ e. sym (quote-kind (b ∷ bs) (string_size false 0 bs) e refl))
    (λ x7. sym (ap kind_of (at-word (b ∷ bs) (omega arith) s (no-sign b x0 x1 x2 x3 x4 x5 x6) x7))))))))))

-- and the other way round: a sign, a string, a word
pub sign-first : (w bs : List ℕ) → is_sign_kind (kind_by bs) ≡ true → (1 ≤ length bs) × (tokens_of bs ≡ token_of (kind_by bs) w ∷ tokens_of (drop 1 bs))
sign-first w [] h = absurd (true≢false (sym h))
sign-first w (b ∷ bs) e0 =
    let P : Kind → Type 0 = λ m. is_sign_kind m ≡ true → (1 ≤ length (b ∷ bs)) × (tokens_of (b ∷ bs) ≡ token_of m w ∷ tokens_of (drop 1 (b ∷ bs))) in
    either P (b == 40) _ _ (λ e _. (omega arith, at-sign (b ∷ bs) 40 opening (omega arith) e refl))
    (λ x0. either P (b == 41) _ _ (λ e _. (omega arith, at-sign (b ∷ bs) 41 closing (omega arith) e refl))
    (λ x1. either P (b == 123) _ _ (λ e _. (omega arith, at-sign (b ∷ bs) 123 left (omega arith) e refl))
    (λ x2. either P (b == 125) _ _ (λ e _. (omega arith, at-sign (b ∷ bs) 125 right (omega arith) e refl))
    (λ x3. either P (b == 58) _ _ (λ e _. (omega arith, at-sign (b ∷ bs) 58 colon (omega arith) e refl))
    (λ x4. either P (b == 59) _ _ (λ e _. (omega arith, at-sign (b ∷ bs) 59 semicolon (omega arith) e refl))
    (λ x5. either P (b == 44) _ _ (λ e _. (omega arith, at-sign (b ∷ bs) 44 comma (omega arith) e refl))
    (λ x6. either P (b == 34) _ _ (λ _ h. absurd (true≢false (sym h)))
    (λ x7. λ h. absurd (true≢false (sym h)))))))))) e0

abbrev Byte : List ℕ → ℕ → Bool → Type 0
Byte bs v b = (get_or bs 0 0 == v) ≡ b

pub quote-byte : (bs : List ℕ) → kind_by bs ≡ kind.Text → Byte bs 34 true
quote-byte [] e = absurd (cc)
quote-byte (b ∷ bs) e0 =
    let P : Kind → Type 0 = λ m. m ≡ kind.Text → Byte (b ∷ bs) 34 true in
    either P (b == 40) _ _ (λ _ f. absurd (cc))
    (λ x0. either P (b == 41) _ _ (λ _ f. absurd (cc))
    (λ x1. either P (b == 123) _ _ (λ _ f. absurd (cc))
    (λ x2. either P (b == 125) _ _ (λ _ f. absurd (cc))
    (λ x3. either P (b == 58) _ _ (λ _ f. absurd (cc))
    (λ x4. either P (b == 59) _ _ (λ _ f. absurd (cc))
    (λ x5. either P (b == 44) _ _ (λ _ f. absurd (cc))
    (λ x6. either P (b == 34) _ _ (λ x _. x)
    (λ x7. λ f. absurd (cc))))))))) e0

pub word-byte : (bs : List ℕ) → kind_by bs ≡ kind.Word → (0 < length bs) × ((sign_of (get_or bs 0 0) ≡ None) × Byte bs 34 false)
word-byte [] e = absurd (cc)
word-byte (b ∷ bs) e0 =
    let P : Kind → Type 0 = λ m. m ≡ kind.Word → (0 < length (b ∷ bs)) × ((sign_of b ≡ None) × Byte (b ∷ bs) 34 false) in
    either P (b == 40) _ _ (λ _ f. absurd (cc))
    (λ x0. either P (b == 41) _ _ (λ _ f. absurd (cc))
    (λ x1. either P (b == 123) _ _ (λ _ f. absurd (cc))
    (λ x2. either P (b == 125) _ _ (λ _ f. absurd (cc))
    (λ x3. either P (b == 58) _ _ (λ _ f. absurd (cc))
    (λ x4. either P (b == 59) _ _ (λ _ f. absurd (cc))
    (λ x5. either P (b == 44) _ _ (λ _ f. absurd (cc))
    (λ x6. either P (b == 34) _ _ (λ _ f. absurd (cc))
    (λ x7. λ _. (omega arith, (no-sign b x0 x1 x2 x3 x4 x5 x6, x7)))))))))) e0

pub is-word : (bs : List ℕ) → is_settled piece_of bs ≡ true → kind_of (tokens_of bs) ≡ kind.Word →
    tokens_of bs ≡ word (take (word_size bs) bs) ∷ tokens_of (drop (word_size bs) bs)
is-word bs s e = let b = word-byte bs (kinds bs s ∙ e) in at-word bs b.0 s b.1.0 b.1.1

pub is-quote : (bs : List ℕ) → is_settled piece_of bs ≡ true → kind_of (tokens_of bs) ≡ kind.Text → (1 ≤ length bs) × Byte bs 34 true
is-quote bs s e = let b = quote-byte bs (kinds bs s ∙ e) in (byte-some bs 34 (omega arith) b, b)

-- the signs, words and strings that a reader passes
pub sign-front : (text : List ℕ) (at : ℕ) (w : List ℕ) (k : Kind) → is_settled piece_of (drop at text) ≡ true → k ≡ kind_of (tokens_of (drop at text)) → is_sign_kind k ≡ true →
    (at + 1 ≤ length text) × (tokens_of (drop at text) ≡ token_of k w ∷ tokens_of (drop (at + 1) text))
sign-front text at w k s e h =
    let same : kind_by (drop at text) ≡ k = kinds (drop at text) s ∙ sym e in
    let f = sign-first w (drop at text) (ap is_sign_kind same ∙ h) in
    (omega (arith, f.0, length-drop at text), f.1 ∙ ap (λ m. token_of m w ∷ tokens_of (drop 1 (drop at text))) same ∙ ap (λ l. token_of k w ∷ tokens_of l) (drop-drop 1 at text))

pub word-front : (text : List ℕ) (at : ℕ) (rest : List ℕ) (n : ℕ) → is_settled piece_of (drop at text) ≡ true → kind_of (tokens_of (drop at text)) ≡ kind.Word →
    rest ≡ drop at text → n ≡ word_size rest → word_at (tokens_of (drop at text)) ≡ Some (take n rest, tokens_of (drop (at + n) text))
word-front text at rest n s m r e =
    let size : n ≡ word_size (drop at text) = e ∙ ap (word_size) r in
    ap word_at (is-word (drop at text) s m)
    ∙ ap (λ k. Some (take k (drop at text), tokens_of (drop k (drop at text)))) (sym size)
    ∙ ap (λ l. Some (take n l, tokens_of (drop n (drop at text)))) (sym r)
    ∙ ap (λ l. Some (take n rest, tokens_of l)) (drop-drop n at text)

behind : (text : List ℕ) (at : ℕ) (rest : List ℕ) (o : Option ℕ) → rest ≡ drop (at + 1) text → o ≡ string_size false 0 rest → string_size false 0 (drop 1 (drop at text)) ≡ o
behind text at rest o r e = ap (string_size false 0) (drop-drop 1 at text ∙ sym r) ∙ sym e

pub string-front : (text : List ℕ) (at : ℕ) (rest : List ℕ) (n : ℕ) → is_settled piece_of (drop at text) ≡ true → kind_of (tokens_of (drop at text)) ≡ kind.Text →
    rest ≡ drop (at + 1) text → Some n ≡ string_size false 0 rest → string_at (tokens_of (drop at text)) ≡ Some (take n rest, tokens_of (drop (at + (n + 2)) text))
string-front text at rest n s m r e =
    ap string_at (at-string (drop at text) n (is-quote (drop at text) s m).1 (behind text at rest (Some n) r e))
    ∙ ap (λ l. Some (take n l, tokens_of (drop (n + 2) (drop at text)))) (drop-drop 1 at text ∙ sym r)
    ∙ ap (λ l. Some (take n rest, tokens_of l)) (drop-drop (n + 2) at text)

pub no-string : (text : List ℕ) (at : ℕ) (rest : List ℕ) → is_settled piece_of (drop at text) ≡ true → kind_of (tokens_of (drop at text)) ≡ kind.Text →
    rest ≡ drop (at + 1) text → None ≡ string_size false 0 rest → string_at (tokens_of (drop at text)) ≡ None
no-string text at rest s m r e = ap string_at (at-bad (drop at text) (is-quote (drop at text) s m).1 (behind text at rest None r e))
