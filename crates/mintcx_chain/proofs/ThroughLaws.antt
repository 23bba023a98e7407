-- Names one after the other.
use Rattle.std.proofs.Common.{◌≡◌, ℕ, ◌+◌, ◌<◌, ◌≤◌, List, [], ◌∷◌, ◌++◌, length, get_or, take, map, refl, ap, ◌∙◌, sym, arith}
use Rattle.std.proofs.lemmas.List.{append-nil, map-append, take_more, length-map, length-take-le}
use Rattle.mintc_text.specs.Lines.{words}
use Rattle.mintc_text.proofs.SharedLinesLaws.{words-append}
use Rattle.mintcx_chain.specs.Gates.{short_name}
use Rattle.mintcx_chain.specs.Through.{few_text, next_text}

words_more : (ws : List (List ℕ)) (w : List ℕ) → words (ws ++ w ∷ []) ≡ words ws ++ next_text (length ws) w
words_more [] w = refl
words_more (x ∷ ws) w =
    words-append (x ∷ ws) (w ∷ []) (omega arith) ∙ ap (λ v. words (x ∷ ws) ++ v) (append-nil (32 ∷ w))

count : (gates : List (List ℕ)) (i : ℕ) → i ≤ length gates → length (map short_name (take i gates)) ≡ i
count gates i h = length-map (take i gates) short_name ∙ length-take-le i gates h

-- one name more
pub names_more : (gates : List (List ℕ)) (i : ℕ) (gate : List ℕ) → i < length gates → gate ≡ get_or gates i gate →
    few_text (take (i + 1) gates) ≡ few_text (take i gates) ++ next_text i (short_name gate)
names_more gates i gate below is =
    let more : map short_name (take (i + 1) gates) ≡ map short_name (take i gates) ++ short_name gate ∷ [] =
    ap (map short_name) (take_more gates i gate below) ∙ map-append short_name (take i gates) (get_or gates i gate ∷ [])
    ∙ ap (λ v. map short_name (take i gates) ++ short_name v ∷ []) (sym is) in
    ap words more ∙ words_more (map short_name (take i gates)) (short_name gate)
    ∙ ap (λ k. few_text (take i gates) ++ next_text k (short_name gate)) (count gates i (omega arith))
