-- The words of `corners`.
use Rattle.std.proofs.Common.{◌≡◌, ◌<◌, ◌-◌, ◌+◌, ℕ, suc, List, [], ◌∷◌, codes, length, get_or, replicate, drop, arith, refl, ap, ◌∙◌, sym, String, length-drop}
use Rattle.std.proofs.lemmas.List.{length-map, length-replicate}
use Rattle.std.specs.String.{string_bytes}
use Rattle.mintc_text.specs.declared.refusals.Role.TheVariants as role
use Rattle.mintc_command_answers.specs.Commands.{AreWordsOf, IsNumberInRange, bytes_of, roles_of}
use Rattle.mintc_command_answers.specs.declared.command.Command.TheVariants.{Corners}

-- `corners` with its files, as words have them
pub corner_words : {Z : Type 0} (words : List (String Z)) (count : ℕ) (first : List ℕ) → IsNumberInRange (Corners count) → length words ≡ count + 4 → first ≡ codes "corners" →
    bytes_of words ≡ first ∷ bytes_of (drop 1 words) → AreWordsOf (Corners count) (bytes_of (drop 1 words)) (bytes_of words)
corner_words {Z} words count first in_range many is whole =
    let names : length (bytes_of (drop 1 words)) ≡ length (drop 1 words) = length-map (drop 1 words) string_bytes in
    let rest : length (drop 1 words) ≡ length words - 1 = length-drop 1 words in
    let roles : length (replicate count role.Delays) ≡ count = length-replicate count role.Delays in
    let all : length (roles_of (Corners count)) ≡ suc (suc (suc (length (replicate count role.Delays)))) = refl in
    record {
      count = omega (arith, names, rest, roles, all, many);
      whole = whole ∙ ap (λ (w : List ℕ). w ∷ bytes_of (drop 1 words)) is;
      in_range = in_range;
    }

-- words from the first on
pub first_word : {Z : Type 0} (words : List (String Z)) (word : String Z) → 0 < length words → word ≡ get_or words 0 word → bytes_of words ≡ string_bytes word ∷ bytes_of (drop 1 words)
first_word {Z} [] word some is = absurd (omega (arith, some))
first_word {Z} (first ∷ words) word some is = ap (λ (w : String Z). string_bytes w ∷ bytes_of words) (sym is)
