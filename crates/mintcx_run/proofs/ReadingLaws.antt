-- The names of the files of a call, one after the other.
use Rattle.std.proofs.Common.{◌≡◌, ◌≤◌, ◌<◌, ◌+◌, ℕ, List, [], ◌∷◌, ◌++◌, take, length, get_or, arith, ap, ◌∙◌, sym, Option}
use Rattle.std.proofs.lemmas.List.{take_more, length-take-le}
use Rattle.mintc_command.specs.Answers.{MakesAtMost}
use Rattle.mintc_command.proofs.SharedCalls.{MakesAtMost-fewer, MakesAtMost-sum}

-- one more name
pub more-names : (names : List (List ℕ)) (n : ℕ) (name : List ℕ) → n < length names → name ≡ get_or names n name → take (n + 1) names ≡ take n names ++ name ∷ []
more-names names n name below is = take_more names n name below ∙ ap (λ (w : List ℕ). take n names ++ w ∷ []) (sym is)

-- one call more than were made for the first names, which are fewer than all
pub calls_so_far : (names : List (List ℕ)) (n : ℕ) (a b c : Option ℕ) → n < length names → MakesAtMost (length (take n names)) a b → MakesAtMost 1 b c → MakesAtMost (length names) a c
calls_so_far names n a b c below h g =
    let short : length (take n names) ≡ n = length-take-le n names (omega arith) in
    let some : length (take n names) + 1 ≤ length names = omega arith in
    MakesAtMost-fewer (length (take n names) + 1) (length names) a c some (MakesAtMost-sum (length (take n names)) 1 a b c h g)
