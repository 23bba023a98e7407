-- The lines of the two refusals.
use Rattle.std.proofs.Common.{◌≡◌, ℕ, [], ◌∷◌, ◌++◌, decimal, sym, ap}
use Rattle.std.specs.Prelude.{codes}
use Rattle.std.proofs.lemmas.List.{append_assoc}
use Rattle.mintc_text.specs.declared.refusals.Refusal.TheVariants.{Syntax, TooLong}
use Rattle.mintc_text.specs.declared.refusals.Role.TheVariants as role
use Rattle.mintc_text.specs.Refusals.{refusal_line}

pub length-said : (codes "refused " ++ decimal 2) ++ (codes " cells" ++ 10 ∷ []) ≡ refusal_line (TooLong role.Cells)
length-said = ap (λ l. codes "refused " ++ l) (sym (append_assoc (decimal 2) (codes " cells") (10 ∷ [])))

pub syntax-said : (n : ℕ) → (((codes "refused " ++ decimal 1) ++ codes " cells ") ++ decimal n) ++ 10 ∷ [] ≡ refusal_line (Syntax role.Cells n)
syntax-said n = ap (λ l. codes "refused " ++ (l ++ 10 ∷ [])) (append_assoc (decimal 1) (codes " cells ") (decimal n))
