-- A piece has at least one byte, and lies within the text.
use Rattle.std.proofs.Common.{◌≡◌, ℕ, ◌+◌, ◌<◌, ◌≤◌, Bool, true, false, ◌==◌, List, [], ◌∷◌, length, get_or, drop, Option, IfSome, sym, ap, arith, length-drop, true-eqb}
use Rattle.mintc_text_scan.specs.Bytes.{string_size, comment_size}
use Rattle.mintc_text_scan.proofs.SharedSizes.{Ends, string-within, comment-within}
use Rattle.mintc_text_scan.proofs.SharedTokenLaws.{Fits}
use Rattle.mintc_sdf_tokens.specs.Tokens.{ends_word, word_size, word_piece, string_piece, comment_piece, slash_piece, piece_of}

word-within : (kept : Bool) (bs : List ℕ) → word_size kept bs ≤ length bs
word-within kept [] = omega arith
word-within true (b ∷ bs) = let more = word-within false bs in omega arith
word-within false (b ∷ bs) = let more = word-within (b == 92) bs in grind (arith, more)

word-fits : (bs : List ℕ) → 0 < length bs → ends_word (get_or bs 0 0) ≡ false → Fits bs (word_piece bs)
word-fits [] h e = absurd (omega arith)
word-fits (b ∷ bs) h e = grind (arith, word-within false (b ∷ bs), e)

string-fits : (bs : List ℕ) → 0 < length bs → (o : Option ℕ) → IfSome o (λ n. n < 0 + length (drop 1 bs)) → Fits bs (string_piece (drop 1 bs) o)
string-fits bs h o e = grind (arith, length-drop 1 bs, e)

comment-fits : (bs : List ℕ) (o : Option ℕ) → Fits bs (word_piece bs) → Ends (length bs) o → Fits bs (comment_piece bs o)
comment-fits bs o w h = grind (arith, w, h)

slash-fits : (bs : List ℕ) → 0 < length bs → (get_or bs 0 0 == 47) ≡ true → Fits bs (slash_piece bs)
slash-fits bs h e = comment-fits bs (comment_size bs) (word-fits bs h (ap ends_word (true-eqb _ 47 (sym e)))) (comment-within bs e)

pub piece-fits : (bs : List ℕ) → 0 < length bs → Fits bs (piece_of bs)
unfolding piece_of
piece-fits bs h =
    grind (arith, string-fits bs h (string_size false 0 (drop 1 bs)) (string-within false 0 (drop 1 bs)), slash-fits bs h, word-fits bs h)
