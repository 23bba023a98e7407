-- The names of the files that are read, one after the other.
use Rattle.std.proofs.Common.{◌≡◌, ◌≤◌, ◌<◌, ◌+◌, ℕ, List, [], ◌∷◌, ◌++◌, take, length, get_or, arith, ap, ◌∙◌, sym, Option, String}
use Rattle.std.specs.String.{string_bytes}
use Rattle.std.proofs.lemmas.List.{length-map, take_more, map-append, length-take-le, get_or-map}
use Rattle.mintc_text.specs.Outside.{Files, Holds, CountsCall}
use Rattle.mintc_command.specs.Answers.{HoldsAll, MakesAtMost}
use Rattle.mintc_command_answers.specs.Commands.{bytes_of}
use Rattle.mintc_command.proofs.SharedCalls.{MakesAtMost-more, MakesAtMost-fewer}

-- the bytes of one more name
pub bytes_of-more : {Z : Type 0} (names : List (String Z)) (n : ℕ) (name : String Z) → n < length names → name ≡ get_or names n name →
    bytes_of (take (n + 1) names) ≡ bytes_of (take n names) ++ string_bytes name ∷ []
bytes_of-more {Z} names n name below is =
    ap (λ (ws : List (String Z)). bytes_of ws) (take_more names n name below ∙ ap (λ (w : String Z). take n names ++ w ∷ []) (sym is)) ∙ map-append string_bytes (take n names) (name ∷ [])

-- one call more than were made for the first names, which are fewer than all
pub calls_so_far : {Z : Type 0} (names : List (String Z)) (n : ℕ) (a b c : Option ℕ) → n < length names → MakesAtMost (length (bytes_of (take n names))) a b → CountsCall b c → MakesAtMost (length names) a c
calls_so_far {Z} names n a b c below h g =
    let count : length (bytes_of (take n names)) ≡ length (take n names) = length-map (take n names) string_bytes in
    let short : length (take n names) ≡ n = length-take-le n names (omega arith) in
    let some : length (bytes_of (take n names)) + 1 ≤ length names = omega arith in
    MakesAtMost-fewer (length (bytes_of (take n names)) + 1) (length names) a c some (MakesAtMost-more (length (bytes_of (take n names))) a b c h g)

-- a shelf that holds all names holds each
pub Holds-at : {Z : Type 0} (files now : Option Files) (names : List (String Z)) (n : ℕ) (name : String Z) (text : List ℕ) → now ≡ files → n < length names →
    name ≡ get_or names n name → text ≡ string_bytes name → HoldsAll files (bytes_of names) → Holds now text
Holds-at {Z} files now names n name text same below is spelled all =
    let count : length (bytes_of names) ≡ length names = length-map names string_bytes in
    let here : Holds files (get_or (bytes_of names) n []) = all n [] (omega arith) in
    let at : get_or (bytes_of names) n [] ≡ string_bytes name = get_or-map string_bytes names n name [] below ∙ ap string_bytes (sym is) in
    rw (same, spelled) (rw at at here)
