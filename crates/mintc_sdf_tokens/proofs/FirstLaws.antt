-- The first token of a text that begins with one.
use Rattle.std.proofs.Common.{◌≡◌, ℕ, zero, suc, ◌+◌, ◌<◌, ◌≤◌, Bool, true, false, if◌then◌else◌, ◌==◌, List, [], ◌∷◌, ◌++◌, length, get_or, take, drop, refl, sym, ap, subst, ◌∙◌, arith, length-drop, drop-drop, drop_of_length-le, Option, Some, None, true-eqb}
use Rattle.mintc_text_scan.specs.Bytes.{is_white, string_size, comment_size}
use Rattle.mintc_text_scan.specs.Pieces.{Piece, passed, token, front_token, tokens_from, is_token, is_settled}
use Rattle.mintc_text_scan.proofs.SharedSizes.{byte-some}
use Rattle.mintc_text_scan.proofs.SharedTokenLaws.{turn}
use Rattle.mintc_sdf_tokens.specs.declared.reader.TokenKind.TheVariants as mark
use Rattle.mintc_sdf_tokens.specs.Tokens.{Token, opening, closing, word, string, bad, word_piece, string_piece, comment_piece, slash_piece, word_size, piece_of, tokens_of}
use Rattle.mintc_sdf_tokens.specs.Reading.{mark_of, mark_by, word_at, string_at}
use Rattle.mintc_sdf_tokens.proofs.Sizes.{piece-fits}

-- from a piece that is known
pub by_piece : (bs : List ℕ) (p : Piece Token) → 0 < length bs → piece_of bs ≡ p → tokens_of bs ≡ front_token p.token ++ tokens_of (drop p.size bs)
by_piece bs p h e = turn piece_of piece-fits bs h ∙ ap (λ (q : Piece Token). front_token q.token ++ tokens_of (drop q.size bs)) e

byte-is : (bs : List ℕ) (v : ℕ) → (get_or bs 0 0 == v) ≡ true → get_or bs 0 0 ≡ v
byte-is bs v e = true-eqb _ v (sym e)

-- the piece at the front, by its first byte
abbrev piece_by : ℕ → List ℕ → Piece Token
piece_by b bs =
    if is_white b then passed 1
    else (if b == 40 then token opening 1
    else (if b == 41 then token closing 1
    else (if b == 34 then string_piece (drop 1 bs) (string_size false 0 (drop 1 bs))
    else (if b == 47 then slash_piece bs
    else word_piece bs))))

piece-by : (bs : List ℕ) (v : ℕ) → (get_or bs 0 0 == v) ≡ true → piece_of bs ≡ piece_by v bs
unfolding piece_of
piece-by bs v e = ap (λ b. piece_by b bs) (byte-is bs v e)

pub at-opening : (bs : List ℕ) → (get_or bs 0 0 == 40) ≡ true → tokens_of bs ≡ opening ∷ tokens_of (drop 1 bs)
at-opening bs e = by_piece bs (token opening 1) (byte-some bs 40 (omega arith) e) (piece-by bs 40 e)

pub at-closing : (bs : List ℕ) → (get_or bs 0 0 == 41) ≡ true → tokens_of bs ≡ closing ∷ tokens_of (drop 1 bs)
at-closing bs e = by_piece bs (token closing 1) (byte-some bs 41 (omega arith) e) (piece-by bs 41 e)

at-quote : (bs : List ℕ) (o : Option ℕ) → (get_or bs 0 0 == 34) ≡ true → string_size false 0 (drop 1 bs) ≡ o →
    tokens_of bs ≡ front_token (string_piece (drop 1 bs) o).token ++ tokens_of (drop (string_piece (drop 1 bs) o).size bs)
at-quote bs o e f = by_piece bs (string_piece (drop 1 bs) o) (byte-some bs 34 (omega arith) e) (piece-by bs 34 e ∙ ap (string_piece (drop 1 bs)) f)

pub at-string : (bs : List ℕ) (n : ℕ) → (get_or bs 0 0 == 34) ≡ true → string_size false 0 (drop 1 bs) ≡ Some n →
    tokens_of bs ≡ string (take n (drop 1 bs)) ∷ tokens_of (drop (n + 2) bs)
at-string bs n e f = at-quote bs (Some n) e f

pub at-bad : (bs : List ℕ) → (get_or bs 0 0 == 34) ≡ true → string_size false 0 (drop 1 bs) ≡ None → tokens_of bs ≡ bad ∷ []
unfolding tokens_from
at-bad bs e f =
    let some = byte-some bs 34 (omega arith) e in
    at-quote bs None e f ∙ ap (λ l. bad ∷ tokens_of l) (drop_of_length-le bs (omega (arith, length-drop 1 bs)))

slash-word : (bs : List ℕ) (o : Option ℕ) → is_token (comment_piece bs o).token ≡ true → comment_piece bs o ≡ word_piece bs
slash-word bs o h = grind (arith, h)

word-piece : (bs : List ℕ) → (get_or bs 0 0 == 40) ≡ false → (get_or bs 0 0 == 41) ≡ false → (get_or bs 0 0 == 34) ≡ false →
    is_token (piece_of bs).token ≡ true → piece_of bs ≡ word_piece bs
unfolding piece_of
word-piece bs e f g h = grind (arith, slash-word bs (comment_size bs))

pub at-word : (bs : List ℕ) → 0 < length bs → is_settled piece_of bs ≡ true → (get_or bs 0 0 == 40) ≡ false → (get_or bs 0 0 == 41) ≡ false → (get_or bs 0 0 == 34) ≡ false →
    tokens_of bs ≡ word (take (word_size false bs) bs) ∷ tokens_of (drop (word_size false bs) bs)
at-word [] h s e f g = absurd (omega arith)
at-word (b ∷ bs) h s e f g = by_piece (b ∷ bs) (word_piece (b ∷ bs)) h (word-piece (b ∷ bs) e f g s)

-- what comes next is known by the first byte
quote-mark : (bs : List ℕ) (o : Option ℕ) → (get_or bs 0 0 == 34) ≡ true → string_size false 0 (drop 1 bs) ≡ o → mark_of (tokens_of bs) ≡ mark.Quote
quote-mark bs None e f = ap mark_of (at-bad bs e f)
quote-mark bs (Some n) e f = ap mark_of (at-string bs n e f)

pub marks : (bs : List ℕ) → is_settled piece_of bs ≡ true → mark_by bs ≡ mark_of (tokens_of bs)
unfolding tokens_from
marks [] s = refl
marks (b ∷ bs) s = grind (arith, at-opening (b ∷ bs), at-closing (b ∷ bs), quote-mark (b ∷ bs) (string_size false 0 bs), at-word (b ∷ bs) (omega arith) s)

-- and the other way round
abbrev Byte : List ℕ → ℕ → Bool → Type 0
Byte bs v b = (get_or bs 0 0 == v) ≡ b

pub open-byte : (bs : List ℕ) → mark_by bs ≡ mark.Open → Byte bs 40 true
open-byte bs e = grind (arith, e)

pub close-byte : (bs : List ℕ) → mark_by bs ≡ mark.Close → Byte bs 41 true
close-byte bs e = grind (arith, e)

pub quote-byte : (bs : List ℕ) → mark_by bs ≡ mark.Quote → Byte bs 34 true
quote-byte bs e = grind (arith, e)

pub word-byte : (bs : List ℕ) → mark_by bs ≡ mark.Word → (0 < length bs) × (Byte bs 40 false × (Byte bs 41 false × Byte bs 34 false))
word-byte bs e = grind (arith, e)

-- a parenthesis that comes next, and a word
pub is-opening : (bs : List ℕ) → is_settled piece_of bs ≡ true → mark_of (tokens_of bs) ≡ mark.Open → (1 ≤ length bs) × (tokens_of bs ≡ opening ∷ tokens_of (drop 1 bs))
is-opening bs s e = let b = open-byte bs (marks bs s ∙ e) in (byte-some bs 40 (omega arith) b, at-opening bs b)

pub is-closing : (bs : List ℕ) → is_settled piece_of bs ≡ true → mark_of (tokens_of bs) ≡ mark.Close → (1 ≤ length bs) × (tokens_of bs ≡ closing ∷ tokens_of (drop 1 bs))
is-closing bs s e = let b = close-byte bs (marks bs s ∙ e) in (byte-some bs 41 (omega arith) b, at-closing bs b)

pub is-word : (bs : List ℕ) → is_settled piece_of bs ≡ true → mark_of (tokens_of bs) ≡ mark.Word →
    tokens_of bs ≡ word (take (word_size false bs) bs) ∷ tokens_of (drop (word_size false bs) bs)
is-word bs s e = let b = word-byte bs (marks bs s ∙ e) in at-word bs b.0 s b.1.0 b.1.1.0 b.1.1.1

pub is-quote : (bs : List ℕ) → is_settled piece_of bs ≡ true → mark_of (tokens_of bs) ≡ mark.Quote → (1 ≤ length bs) × Byte bs 34 true
is-quote bs s e = let b = quote-byte bs (marks bs s ∙ e) in (byte-some bs 34 (omega arith) b, b)

-- the words and strings that a reader passes
pub word-front : (text : List ℕ) (at : ℕ) (rest : List ℕ) (n : ℕ) → is_settled piece_of (drop at text) ≡ true → mark_of (tokens_of (drop at text)) ≡ mark.Word →
    rest ≡ drop at text → n ≡ word_size false rest → word_at (tokens_of (drop at text)) ≡ Some (take n rest, tokens_of (drop (at + n) text))
word-front text at rest n s m r e =
    let size : n ≡ word_size false (drop at text) = e ∙ ap (word_size false) r in
    ap word_at (is-word (drop at text) s m)
    ∙ ap (λ k. Some (take k (drop at text), tokens_of (drop k (drop at text)))) (sym size)
    ∙ ap (λ l. Some (take n l, tokens_of (drop n (drop at text)))) (sym r)
    ∙ ap (λ l. Some (take n rest, tokens_of l)) (drop-drop n at text)

behind : (text : List ℕ) (at : ℕ) (rest : List ℕ) (o : Option ℕ) → rest ≡ drop (at + 1) text → o ≡ string_size false 0 rest → string_size false 0 (drop 1 (drop at text)) ≡ o
behind text at rest o r e = ap (string_size false 0) (drop-drop 1 at text ∙ sym r) ∙ sym e

pub string-front : (text : List ℕ) (at : ℕ) (rest : List ℕ) (n : ℕ) → is_settled piece_of (drop at text) ≡ true → mark_of (tokens_of (drop at text)) ≡ mark.Quote →
    rest ≡ drop (at + 1) text → Some n ≡ string_size false 0 rest → string_at (tokens_of (drop at text)) ≡ Some (take n rest, tokens_of (drop (at + (n + 2)) text))
string-front text at rest n s m r e =
    ap string_at (at-string (drop at text) n (is-quote (drop at text) s m).1 (behind text at rest (Some n) r e))
    ∙ ap (λ l. Some (take n l, tokens_of (drop (n + 2) (drop at text)))) (drop-drop 1 at text ∙ sym r)
    ∙ ap (λ l. Some (take n rest, tokens_of l)) (drop-drop (n + 2) at text)

pub no-string : (text : List ℕ) (at : ℕ) (rest : List ℕ) → is_settled piece_of (drop at text) ≡ true → mark_of (tokens_of (drop at text)) ≡ mark.Quote →
    rest ≡ drop (at + 1) text → None ≡ string_size false 0 rest → string_at (tokens_of (drop at text)) ≡ None
no-string text at rest s m r e = ap string_at (at-bad (drop at text) (is-quote (drop at text) s m).1 (behind text at rest None r e))

-- a word has a byte
pub word-full : (text : List ℕ) (at : ℕ) (rest : List ℕ) (n : ℕ) → is_settled piece_of (drop at text) ≡ true → mark_of (tokens_of (drop at text)) ≡ mark.Word →
    rest ≡ drop at text → n ≡ word_size false rest → 0 < length (take n rest)
word-full text at rest n s m r e =
    subst (λ l. 0 < length (take n l)) (sym r) (some (drop at text) n (e ∙ ap (word_size false) r) s m)
  where
    front : (bs : List ℕ) (n : ℕ) → 0 < length bs → 0 < n → 0 < length (take n bs)
    front [] n h g = absurd (omega arith)
    front (b ∷ bs) zero h g = absurd (omega arith)
    front (b ∷ bs) (suc n) h g = omega arith

    some : (bs : List ℕ) (n : ℕ) → n ≡ word_size false bs → is_settled piece_of bs ≡ true → mark_of (tokens_of bs) ≡ mark.Word → 0 < length (take n bs)
    some [] n f s m = absurd (omega (arith, (word-byte [] (marks [] s ∙ m)).0))
    some (c ∷ bs) n f s m =
        let b = word-byte (c ∷ bs) (marks (c ∷ bs) s ∙ m) in
        let piece = word-piece (c ∷ bs) b.1.0 b.1.1.0 b.1.1.1 s in
        let fits = piece-fits (c ∷ bs) b.0 in
        let size : (piece_of (c ∷ bs)).size ≡ word_size false (c ∷ bs) = ap (λ (p : Piece Token). p.size) piece in
        front (c ∷ bs) n b.0 (omega (arith, fits.0, size, f))
