-- The lines of one place more.
use Rattle.std.proofs.Common.{◌≡◌, ◌+◌, ℕ, zero, suc, List, [], ◌∷◌, ◌++◌, ap, ◌∙◌, sym, arith, add-one, Result, Ok, Err, OnOk, decimal}
use Rattle.std.specs.Prelude.{flat_map}
use Rattle.std.specs.List.{range_with_len}
use Rattle.std.proofs.lemmas.Grind.{flat_map-append}
use Rattle.std.proofs.lemmas.List.{append_assoc, append-nil}
use Rattle.mintc_text.specs.Lines.{ended, text_of}
use Rattle.mintc_sample.specs.Samples.{numbered, gate_line, latch_line, ring_lines, ring_text, cell_line, entries_text}

range_more : (a n j : ℕ) → a + n ≡ j → range_with_len a (suc n) ≡ range_with_len a n ++ j ∷ []
range_more a zero j e = let same : a ≡ j = omega arith in ap (λ (k : ℕ). k ∷ []) same
range_more a (suc n) j e = ap (λ (v : List ℕ). a ∷ v) (range_more (a + 1) n j (omega arith))

lines_more : (f : ℕ → List (List ℕ)) (n : ℕ) → text_of (flat_map f (range_with_len 0 (n + 1))) ≡ text_of (flat_map f (range_with_len 0 n)) ++ text_of (f n)
lines_more f n =
    let numbers : range_with_len 0 (n + 1) ≡ range_with_len 0 n ++ n ∷ [] = rw add-one (range_more 0 n n (omega arith)) in
    let last : flat_map f (n ∷ []) ≡ f n = append-nil (f n) in
    let lines : flat_map f (range_with_len 0 (n + 1)) ≡ flat_map f (range_with_len 0 n) ++ f n =
    ap (λ (ns : List ℕ). flat_map f ns) numbers ∙ flat_map-append f (range_with_len 0 n) (n ∷ []) ∙ ap (λ (ls : List (List ℕ)). flat_map f (range_with_len 0 n) ++ ls) last in
    ap (λ (ls : List (List ℕ)). text_of ls) lines ∙ flat_map-append ended (flat_map f (range_with_len 0 n)) (f n)

-- A text that has the lines of the first places, and then those of the next one.
pub one_more : (f : ℕ → List (List ℕ)) (n : ℕ) (old now new : List ℕ) → now ≡ old ++ text_of (flat_map f (range_with_len 0 n)) → new ≡ now ++ text_of (f n) →
    new ≡ old ++ text_of (flat_map f (range_with_len 0 (n + 1)))
one_more f n old now new before more =
    more ∙ ap (λ (x : List ℕ). x ++ text_of (f n)) before ∙ append_assoc old (text_of (flat_map f (range_with_len 0 n))) (text_of (f n))
    ∙ ap (λ (x : List ℕ). old ++ x) (sym (lines_more f n))

-- two lines, one after the other
pub two_lines : (now mid new a b : List ℕ) → mid ≡ now ++ ended a → new ≡ mid ++ ended b → new ≡ now ++ text_of (a ∷ b ∷ [])
two_lines now mid new a b first second =
    second ∙ ap (λ (x : List ℕ). x ++ ended b) first ∙ append_assoc now (ended a) (ended b)
    ∙ ap (λ (x : List ℕ). now ++ (ended a ++ x)) (sym (append-nil (ended b)))

pub one_line : (now new a : List ℕ) → new ≡ now ++ ended a → new ≡ now ++ text_of (a ∷ [])
one_line now new a first = first ∙ ap (λ (x : List ℕ). now ++ x) (sym (append-nil (ended a)))

-- a word, and then a number
pub put_number : {E : Type 0} (r : Result (Unit {0}) E) (old mid new word : List ℕ) (n : ℕ) → mid ≡ old ++ word → OnOk r (new ≡ mid ++ decimal n) → OnOk r (new ≡ old ++ numbered word n)
unfolding numbered
put_number (Ok u) old mid new word n first h = h ∙ ap (λ (x : List ℕ). x ++ decimal n) first ∙ append_assoc old word (decimal n)
put_number (Err e) old mid new word n first h = tt

-- the first places of a ring with one more, and of its entries
pub ring_more : (old now mid new : List ℕ) (l : ℕ) → now ≡ old ++ ring_text l → mid ≡ now ++ ended (gate_line l) → new ≡ mid ++ ended (latch_line l) → new ≡ old ++ ring_text (l + 1)
unfolding ring_text
ring_more old now mid new l before gate latch = one_more ring_lines l old now new before (two_lines now mid new (gate_line l) (latch_line l) gate latch)

pub entries_more : (number : ℕ) (old now new : List ℕ) (l : ℕ) → now ≡ old ++ entries_text number l → new ≡ now ++ ended (cell_line number l) → new ≡ old ++ entries_text number (l + 1)
unfolding entries_text
entries_more number old now new l before entry = one_more (λ k. cell_line number k ∷ []) l old now new before (one_line now new (cell_line number l) entry)

-- with none of them a text is as it was
pub no_ring : (old : List ℕ) → old ≡ old ++ ring_text 0
unfolding ring_text
no_ring old = sym (append-nil old)

pub no_entries : (number : ℕ) (old : List ℕ) → old ≡ old ++ entries_text number 0
unfolding entries_text
no_entries number old = sym (append-nil old)

-- a text of three parts
pub three_parts : (none first second last text a b c : List ℕ) → none ≡ [] → first ≡ none ++ a → second ≡ first ++ b → last ≡ second ++ c → text ≡ last → text ≡ a ++ b ++ c
three_parts none first second last text a b c empty x y z whole =
    whole ∙ z ∙ ap (λ (t : List ℕ). t ++ c) (y ∙ ap (λ (t : List ℕ). t ++ b) (x ∙ ap (λ (t : List ℕ). t ++ a) empty))
