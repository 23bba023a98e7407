-- Lines written one after the other.
use Rattle.std.proofs.Common.{◌≡◌, ℕ, ℤ, pos, ◌+◌, ◌<◌, ◌≤◌, List, [], ◌∷◌, ◌++◌, length, get_or, take, ap, ◌∙◌, arith, append_assoc}
use Rattle.std.proofs.lemmas.Grind.{take_at_read, flat_map-append}
use Rattle.std.proofs.lemmas.Int.{to_z-of_z}
use Rattle.std.proofs.lemmas.List.{append-nil, map-append, take_all, take_more}
use Rattle.std.proofs.lemmas.Slice.Zip.{get_or-zip, length-zip}
use Rattle.std.specs.List.{zip}
use Rattle.mintc_text.specs.Lines.{ended, spaced, text_of, words}
use Rattle.mintc_text.proofs.SharedLinesLaws.{words-spaced, spaced-append}

-- the words of a line, each after the one before
pub ruleset written = (words-spaced, spaced-append, append_assoc)

-- a line that is written as its first word, the others in two parts, and its line feed
pub line_in_parts : (old begun some all done first : List ℕ) (ws xs : List (List ℕ)) → begun ≡ old ++ first → some ≡ begun ++ spaced ws →
    all ≡ some ++ spaced xs → done ≡ all ++ 10 ∷ [] → done ≡ old ++ ended (words (first ∷ ws ++ xs))
line_in_parts old begun some all done first ws xs e f g h = grind (arith, written)

-- two texts, one after the other
pub texts_joined : (old now new : List ℕ) (lines more : List (List ℕ)) → now ≡ old ++ text_of lines → new ≡ now ++ text_of more → new ≡ old ++ text_of (lines ++ more)
texts_joined old now new lines more before after = grind (arith, flat_map-append, append_assoc)

-- one pair more of two lists, and all
pub pairs_more : (xs ys : List ℤ) (i : ℕ) → i < length xs → i < length ys → take (i + 1) (zip xs ys) ≡ take i (zip xs ys) ++ (get_or xs i (pos 0), get_or ys i (pos 0)) ∷ []
pairs_more xs ys i h g =
    take_more (zip xs ys) i (pos 0, pos 0) (rw length-zip (omega arith)) ∙ ap (λ p. take i (zip xs ys) ++ p ∷ []) (get_or-zip xs ys i (pos 0, pos 0) h g)

pub pairs_all : (xs ys : List ℤ) (i : ℕ) → length ys ≡ length xs → length xs ≤ i → take i (zip xs ys) ≡ zip xs ys
pairs_all xs ys i same past = take_all i (zip xs ys) (rw length-zip (omega arith))

-- the step of a loop that writes a line for each item
pub ruleset one_more = (to_z-of_z, take_at_read, pairs_more, pairs_all, map-append, flat_map-append, append_assoc, append-nil)
