-- Corners, one after the other.
use Rattle.std.proofs.lemmas.List.Elements.{All-cons}
use Rattle.std.proofs.lemmas.Slice.Zip.{AllZip-long}
use Rattle.mintc_text.specs.declared.limits.Most.{Most}
use Rattle.mintc_text.specs.declared.refusals.Refusal.{Refusal}
use Rattle.mintc_text.specs.declared.refusals.Refusal.TheVariants as refusal
use Rattle.mintc_timing.specs.Design.{Timing}
use Rattle.mintc_certificate.specs.Ranges.{IsCertificateInRange}
use Rattle.mintc_certificate.specs.declared.certificate.Certificate.{Certificate}
use Rattle.mintc_command_answers.specs.Corners.{AreGiven, AreTooMany, IsFirstRefused, corners_of, of_corner, of_elements}
use Rattle.mintc_command_answers.specs.Answers.{IsFirstRefusal, of_contents}
use Rattle.mintc_command_answers.specs.Sources.{AreShort}
use Rattle.mintc_command_answers.specs.declared.command.Command.TheVariants.{Corners}
use Rattle.mintc_command_answers.specs.Jobs.{IsOptimum}
use Rattle.mintcx_joint.specs.Alone.{HasAlone}
use Rattle.std.specs.Prelude.{All}
use Rattle.std.proofs.Common.{◌≡◌, ◌<◌, ◌+◌, ◌≤◌, ℕ, zero, suc, List, [], ◌∷◌, ◌++◌, length, take, get_or, refl, sym, subst, arith}
use Rattle.std.specs.List.{AllZip}

-- one more of each
next : {A B : Type 0} (R : A → B → Type 0) (xs : List A) (n : ℕ) (ys : List B) (d : A) (y : B) → n < length xs → AllZip R (take n xs) ys → R (get_or xs n d) y →
    AllZip R (take (suc n) xs) (ys ++ y ∷ [])
next R [] n ys d y below h g = absurd (omega (arith, below))
next R (x ∷ xs) zero [] d y below h g = (g, tt)
next R (x ∷ xs) zero (z ∷ ys) d y below h g = absurd h
next R (x ∷ xs) (suc n) [] d y below h g = absurd h
next R (x ∷ xs) (suc n) (z ∷ ys) d y below h g = (h.0, next R xs n ys d y (omega (arith, below)) h.1 g)

pub one_more : {A B : Type 0} (R : A → B → Type 0) (xs : List A) (n : ℕ) (ys now : List B) (x d : A) (y : B) → n < length xs → x ≡ get_or xs n d → now ≡ ys ++ y ∷ [] → AllZip R (take n xs) ys → R x y →
    AllZip R (take (n + 1) xs) now
one_more {A} {B} R xs n ys now x d y below is pushed h g =
    let more : suc n ≡ n + 1 = omega arith in
    let own : R (get_or xs n d) y = subst (λ (z : A). R z y) is g in
    let P : ℕ → Type 0 = λ m. AllZip R (take m xs) now in
    subst P more (subst (λ (z : List B). AllZip R (take (suc n) xs) z) (sym pushed) (next R xs n ys d y below h own))

-- each corner has a certificate, which is in its range
in_ranges : (ts : List Timing) (alone : List Certificate) → AllZip IsOptimum ts alone → All IsCertificateInRange alone
in_ranges [] [] h = λ k d inside. absurd (omega (arith, inside))
in_ranges [] (c ∷ alone) h = absurd h
in_ranges (t ∷ ts) [] h = absurd h
in_ranges (t ∷ ts) (c ∷ alone) h = All-cons IsCertificateInRange c alone h.0.in_range (in_ranges ts alone h.1)

pub has_alone : (ts : List Timing) (names : List (List ℕ)) (alone : List Certificate) → length names ≡ length ts → AllZip IsOptimum ts alone → HasAlone ts names alone
has_alone ts names alone many h = record { named = many; count = AllZip-long IsOptimum ts alone h; each = in_ranges ts alone h }

-- where the corners of a command have no answer, its first refusal is that of a corner, or of all
pub of_first : (most : Most) (count : ℕ) (texts : List (List ℕ)) (corner : ℕ) (own : Refusal) → AreShort most texts → IsFirstRefused most (corners_of texts) 1 corner own →
    IsFirstRefusal most (Corners count) texts (refusal.Corner corner)
of_first most count texts corner own short first = of_contents short (of_corner corner own first refl)

pub of_many : (most : Most) (count : ℕ) (texts : List (List ℕ)) (refused : Refusal) → AreShort most texts → ((ts : List Timing) × AreGiven most (corners_of texts) ts × AreTooMany most ts refused) →
    IsFirstRefusal most (Corners count) texts refused
of_many most count texts refused short (ts, given, over) = of_contents short (of_elements ts given over)
