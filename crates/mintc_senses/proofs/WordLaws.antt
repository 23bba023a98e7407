-- Reading the words of a text byte by byte.
use Rattle.std.proofs.Common.{◌≡◌, ℕ, suc, ◌+◌, ◌-◌, ◌<◌, ◌≤◌, Bool, true, false, ◌||◌, if◌then◌else◌, List, [], ◌∷◌, ◌++◌, length, get_or, take, drop, drop-cons, add-one, refl, sym, ap, ◌∙◌, arith, length-drop}
use Rattle.std.proofs.lemmas.List.{get_or-drop}
use Rattle.std.proofs.Math.Seq.{take-suc}
use Rattle.std.specs.List.{slice_range}
use Rattle.mintc_senses.specs.declared.words.Cut.{Cut}
use Rattle.mintc_senses.specs.Words.{is_inside, word_before, words_after, is_wanted_among}
use Rattle.mintc_senses.specs.Seen.{words_from}

-- a word that isn't empty
pub word-there : (w : List ℕ) (ws : List (List ℕ)) → (length w ≡ 0 → ⊥) → word_before w ws ≡ w ∷ ws
word-there [] ws n = absurd (n refl)
word-there (b ∷ w) ws n = refl

-- one more byte of a word
grown : (text : List ℕ) (from place : ℕ) → from ≤ place → place < length text → slice_range text from place ++ get_or text place 0 ∷ [] ≡ slice_range text from (place + 1)
grown text from place h k =
    let here : place - from < length (drop from text) = omega (arith, length-drop from text) in
    let next : place + 1 - from ≡ suc (place - from) = omega arith in
    let there : from + (place - from) ≡ place = omega arith in
    let byte : get_or (drop from text) (place - from) 0 ≡ get_or text place 0 = get_or-drop from text (place - from) 0 ∙ ap (λ k. get_or text k 0) there in
    sym (ap (λ k. take k (drop from text)) next ∙ take-suc (drop from text) (place - from) 0 here ∙ ap (λ b. take (place - from) (drop from text) ++ b ∷ []) byte)

nothing : (text : List ℕ) (from : ℕ) → slice_range text from from ≡ []
nothing text from = let zero : from - from ≡ 0 = omega arith in ap (λ k. take k (drop from text)) zero

-- the words from a byte on
words-at : (k : Cut) (w text : List ℕ) (place : ℕ) → place < length text →
    words_after k w (drop place text)
    ≡ (if is_inside k (get_or text place 0) then words_after k (w ++ get_or text place 0 ∷ []) (drop (place + 1) text)
    else word_before w (words_after k [] (drop (place + 1) text)))
words-at k w text place h =
    ap (words_after k w) (drop-cons text place 0 h ∙ ap (λ n. get_or text place 0 ∷ drop n text) (sym (add-one place)))

-- a byte of a word
in-word : (k : Cut) (text : List ℕ) (from place : ℕ) → from ≤ place → place < length text → is_inside k (get_or text place 0) ≡ true →
    words_from k text from place ≡ words_from k text from (place + 1)
in-word k text from place h l e =
    words-at k (slice_range text from place) text place l
    ∙ ap (λ b. if b then words_after k (slice_range text from place ++ get_or text place 0 ∷ []) (drop (place + 1) text) else word_before (slice_range text from place) (words_after k [] (drop (place + 1) text))) e
    ∙ ap (λ w. words_after k w (drop (place + 1) text)) (grown text from place h l)

-- another byte
other-byte : (k : Cut) (text : List ℕ) (from place : ℕ) → place < length text → is_inside k (get_or text place 0) ≡ false →
    words_from k text from place ≡ word_before (slice_range text from place) (words_from k text (place + 1) (place + 1))
other-byte k text from place l e =
    words-at k (slice_range text from place) text place l
    ∙ ap (λ b. if b then words_after k (slice_range text from place ++ get_or text place 0 ∷ []) (drop (place + 1) text) else word_before (slice_range text from place) (words_after k [] (drop (place + 1) text))) e
    ∙ ap (λ w. word_before (slice_range text from place) (words_after k w (drop (place + 1) text))) (sym (nothing text (place + 1)))

-- whether a word is among them

pub word-byte : (same : Bool) (w : List ℕ) (k : Cut) (text : List ℕ) (from place : ℕ) → from ≤ place → place < length text → is_inside k (get_or text place 0) ≡ true →
    is_wanted_among same w (words_from k text from place) ≡ is_wanted_among same w (words_from k text from (place + 1))
word-byte same w k text from place h l e = ap (is_wanted_among same w) (in-word k text from place h l e)

pub passed-byte : (same : Bool) (w : List ℕ) (k : Cut) (text : List ℕ) (from place : ℕ) → place < length text → is_inside k (get_or text place 0) ≡ false → {r : Bool} →
    is_wanted_among same w (word_before (slice_range text from place) (words_from k text (place + 1) (place + 1))) ≡ (r || is_wanted_among same w (words_from k text (place + 1) (place + 1))) → r ≡ false →
    is_wanted_among same w (words_from k text from place) ≡ is_wanted_among same w (words_from k text (place + 1) (place + 1))
passed-byte same w k text from place l e f n =
    ap (is_wanted_among same w) (other-byte k text from place l e) ∙ f ∙ ap (λ b. b || is_wanted_among same w (words_from k text (place + 1) (place + 1))) n

pub found-byte : (same : Bool) (w : List ℕ) (k : Cut) (text : List ℕ) (from place : ℕ) → place < length text → is_inside k (get_or text place 0) ≡ false → {r : Bool} →
    is_wanted_among same w (word_before (slice_range text from place) (words_from k text (place + 1) (place + 1))) ≡ (r || is_wanted_among same w (words_from k text (place + 1) (place + 1))) → r ≡ true →
    is_wanted_among same w (words_from k text from place) ≡ true
found-byte same w k text from place l e f n =
    ap (is_wanted_among same w) (other-byte k text from place l e) ∙ f ∙ ap (λ b. b || is_wanted_among same w (words_from k text (place + 1) (place + 1))) n
