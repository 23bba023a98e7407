-- Reading a text byte by byte.
use Rattle.std.proofs.Common.{◌≡◌, ℕ, suc, ◌+◌, ◌-◌, ◌<◌, ◌≤◌, Bool, true, false, if◌then◌else◌, List, [], ◌∷◌, ◌++◌, length, get_or, take, drop, drop-cons, add-one, Option, Some, None, option_map, option_and_then, MatchBool, refl, sym, ap, subst, ◌∙◌, arith, length-drop}
use Rattle.std.proofs.lemmas.List.{get_or-drop}
use Rattle.std.proofs.Math.Seq.{take-suc, drop-length}
use Rattle.std.specs.List.{slice_range}
use Rattle.mintc_text_scan.specs.Bytes.{is_white}
use Rattle.mintc_senses_expressions.specs.declared.signs.Sign.{Sign}
use Rattle.mintc_senses_expressions.specs.declared.signs.Sign.TheVariants as kind
use Rattle.mintc_senses_expressions.specs.declared.transitions.Transitions.{Transitions}
use Rattle.mintc_senses_expressions.specs.Symbols.{Symbol, word, sign, is_word_byte, sign_of, ended, behind, symbols_after}
use Rattle.mintc_senses_expressions.specs.Reading.{State, on_senses, sign_step, step, read}
use Rattle.mintc_senses_expressions.specs.Seen.{operated, in_word, read_for, read_from}

-- a word that isn't empty
pub word-ended : (w : List ℕ) (ys : List Symbol) → (length w ≡ 0 → ⊥) → ended w ys ≡ word w ∷ ys
word-ended [] ys n = absurd (n refl)
word-ended (b ∷ w) ys n = refl

pub no-word : (w : List ℕ) (ys : List Symbol) → length w ≡ 0 → ended w ys ≡ ys
no-word [] ys e = refl
no-word (b ∷ w) ys e = absurd (omega arith)

-- one more byte of a word
pub grown : (text : List ℕ) (from place : ℕ) → from ≤ place → place < length text → slice_range text from place ++ get_or text place 0 ∷ [] ≡ slice_range text from (place + 1)
grown text from place h k =
    let here : place - from < length (drop from text) = omega (arith, length-drop from text) in
    let next : place + 1 - from ≡ suc (place - from) = omega arith in
    let there : from + (place - from) ≡ place = omega arith in
    let byte : get_or (drop from text) (place - from) 0 ≡ get_or text place 0 = get_or-drop from text (place - from) 0 ∙ ap (λ k. get_or text k 0) there in
    sym (ap (λ k. take k (drop from text)) next ∙ take-suc (drop from text) (place - from) 0 here ∙ ap (λ b. take (place - from) (drop from text) ++ b ∷ []) byte)

pub nothing : (text : List ℕ) (from : ℕ) → slice_range text from from ≡ []
nothing text from = let zero : from - from ≡ 0 = omega arith in ap (λ k. take k (drop from text)) zero

-- the symbols from a byte on
pub symbols-at : (w text : List ℕ) (place : ℕ) → place < length text →
    symbols_after w (drop place text)
    ≡ (if is_word_byte (get_or text place 0) then symbols_after (w ++ get_or text place 0 ∷ []) (drop (place + 1) text)
    else ended w (behind (get_or text place 0) (symbols_after [] (drop (place + 1) text))))
symbols-at w text place h =
    ap (symbols_after w) (drop-cons text place 0 h ∙ ap (λ k. get_or text place 0 ∷ drop k text) (sym (add-one place)))

-- a byte of a word
pub word-byte : (n text : List ℕ) (from place : ℕ) (s : State Transitions) → from ≤ place → place < length text → is_word_byte (get_or text place 0) ≡ true →
    read_from n text from place s ≡ read_from n text from (place + 1) s
word-byte n text from place s h k e =
    ap (λ ys. read_for n ys s)
    (symbols-at (slice_range text from place) text place k
    ∙ ap (λ b. if b then symbols_after (slice_range text from place ++ get_or text place 0 ∷ []) (drop (place + 1) text) else ended (slice_range text from place) (behind (get_or text place 0) (symbols_after [] (drop (place + 1) text)))) e
    ∙ ap (λ w. symbols_after w (drop (place + 1) text)) (grown text from place h k))

-- another byte
pub other-byte : (n text : List ℕ) (from place : ℕ) (s : State Transitions) → place < length text → is_word_byte (get_or text place 0) ≡ false →
    read_from n text from place s ≡ read_for n (ended (slice_range text from place) (behind (get_or text place 0) (symbols_after [] (drop (place + 1) text)))) s
other-byte n text from place s k e =
    ap (λ ys. read_for n ys s)
    (symbols-at (slice_range text from place) text place k
    ∙ ap (λ b. if b then symbols_after (slice_range text from place ++ get_or text place 0 ∷ []) (drop (place + 1) text) else ended (slice_range text from place) (behind (get_or text place 0) (symbols_after [] (drop (place + 1) text)))) e)

-- behind it a word may begin
pub begun : (n text : List ℕ) (place : ℕ) (s : State Transitions) → read_for n (symbols_after [] (drop place text)) s ≡ read_from n text place place s
begun n text place s = ap (λ w. read_for n (symbols_after w (drop place text)) s) (sym (nothing text place))

-- behind the last byte
pub at-end : (n text : List ℕ) (from : ℕ) (s : State Transitions) → read_from n text from (length text) s ≡ read_for n (ended (slice_range text from (length text)) []) s
at-end n text from s = ap (λ bs. read_for n (symbols_after (slice_range text from (length text)) bs) s) (drop-length text)

-- a byte that is white, or a sign that may stand there or not
pub white-passed : (n : List ℕ) (b : ℕ) (ys : List Symbol) (s : State Transitions) → is_white b ≡ true → read_for n (behind b ys) s ≡ read_for n ys s
white-passed n b ys s e = ap (λ v. read_for n (if v then ys else sign (sign_of b) ∷ ys) s) e

pub sign-read : (n : List ℕ) (b : ℕ) (ys : List Symbol) (s : State Transitions) → is_white b ≡ false → read_for n (behind b ys) s ≡ option_and_then (read on_senses (in_word n) ys) (sign_step on_senses (sign_of b) s)
sign-read n b ys s e = ap (λ v. read_for n (if v then ys else sign (sign_of b) ∷ ys) s) e

-- a sign that is no parenthesis
pub plain-sign : (k : Sign) (s : State Transitions) → (k ≡ kind.Opening → ⊥) → (k ≡ kind.Closing → ⊥) → sign_step on_senses k s ≡ operated k s
plain-sign kind.Opening s n m = absurd (n refl)
plain-sign kind.Closing s n m = absurd (m refl)
plain-sign kind.Inversion s n m = refl
plain-sign kind.Prime s n m = refl
plain-sign kind.Exclusive s n m = refl
plain-sign kind.Conjunction s n m = refl
plain-sign kind.Disjunction s n m = refl
plain-sign kind.Other s n m = refl

-- an answer to a sign as one to the byte
pub signed-byte : (n : List ℕ) (b : ℕ) (old new : State Transitions) (r : Bool) → is_white b ≡ false →
    MatchBool r (sign_step on_senses (sign_of b) old ≡ Some new) (sign_step on_senses (sign_of b) old ≡ None) →
    MatchBool r ((ys : List Symbol) → read_for n (behind b ys) old ≡ read_for n ys new) ((ys : List Symbol) → read_for n (behind b ys) old ≡ None)
signed-byte n b old new true e h = λ ys. sign-read n b ys old e ∙ ap (option_and_then (read on_senses (in_word n) ys)) h
signed-byte n b old new false e h = λ ys. sign-read n b ys old e ∙ ap (option_and_then (read on_senses (in_word n) ys)) h

pub at-true : (P Q : Type 0) (b : Bool) → MatchBool b P Q → b ≡ true → P
at-true P Q true h e = h
at-true P Q false h e = absurd (cc)
