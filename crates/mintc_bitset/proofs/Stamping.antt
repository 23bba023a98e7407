-- Flags by stamps.
use Rattle.std.proofs.Common.{◌≡◌, ◌<◌, ◌≤◌, ◌+◌, ◌==◌, ℕ, suc, true, false, List, [], ◌∷◌, length, replicate, All, set, ap, refl, ◌∙◌, sym, arith}
use Rattle.std.proofs.lemmas.List.{length-map, length-replicate, map-set}
use Rattle.std.proofs.lemmas.List.Elements.{All-replicate}
use Rattle.mintc_bitset.specs.Stamps.{flags_of}

-- Where each stamp comes before the last one, no flag is up.
pub none_up : (last : ℕ) (stamps : List ℕ) → All (λ stamp. stamp < last) stamps → flags_of last stamps ≡ replicate (length stamps) false
none_up last [] h = refl
none_up last (stamp ∷ stamps) h =
    let low : stamp < last = h 0 0 (omega arith) in
    let first : (stamp == last) ≡ false = grind (arith, low) in
    rw first (ap (λ flags. false ∷ flags) (none_up last stamps (λ k d inside. h (suc k) d (omega (arith, inside)))))

-- No flag is up at the next stamp.
pub next_up : (last : ℕ) (stamps : List ℕ) → All (λ stamp. stamp ≤ last) stamps → flags_of (last + 1) stamps ≡ replicate (length (flags_of last stamps)) false
next_up last stamps h =
    none_up (last + 1) stamps (λ k d inside. let low = h k d inside in omega (arith, low))
    ∙ ap (λ n. replicate n false) (sym (length-map stamps (λ stamp. stamp == last)))

-- No flag is up where no stamp is set.
pub begun_up : (last n : ℕ) → 0 < last → flags_of last (replicate n 0) ≡ replicate n false
begun_up last n some =
    none_up last (replicate n 0) (All-replicate (λ stamp. stamp < last) n 0 some) ∙ ap (λ k. replicate k false) (length-replicate n 0)

-- the last stamp puts a flag up
pub set_up : (last : ℕ) (stamps : List ℕ) (place : ℕ) → flags_of last (set stamps place last) ≡ set (flags_of last stamps) place true
set_up last stamps place =
    let up : (last == last) ≡ true = grind arith in
    map-set (λ stamp. stamp == last) stamps place last ∙ ap (set (flags_of last stamps) place) up
