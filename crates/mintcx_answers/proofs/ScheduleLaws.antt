-- The lines of a schedule's own text, as they are written.
use Rattle.std.proofs.Common.{◌≡◌, ◌∙◌, List, [], ◌∷◌, ℕ, ◌++◌, ap, sym, append_assoc}
use Rattle.std.specs.Prelude.{codes}
use Rattle.mintc_text.specs.Lines.{ended, text_of}
use Rattle.mintc_text.proofs.SharedLinesLaws.{text_of-push}

-- a first line, others, and a last one
pub lines-written : (old a b new first last : List ℕ) (lines : List (List ℕ)) → a ≡ old ++ ended first → b ≡ a ++ text_of lines → new ≡ b ++ ended last →
    new ≡ old ++ text_of (first ∷ (lines ++ last ∷ []))
lines-written old a b new first last lines e f g =
    rw (g, f, e) (append_assoc (old ++ ended first) (text_of lines) (ended last) ∙ append_assoc old (ended first) (text_of lines ++ ended last)
    ∙ ap (λ v. old ++ (ended first ++ v)) (sym (text_of-push lines last)))
