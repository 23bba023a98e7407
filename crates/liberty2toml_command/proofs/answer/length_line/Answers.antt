use Rattle.std.proofs.Common.{ℕ, List, [], ◌∷◌, ◌++◌, decimal, ap, ◌∙◌}
use Rattle.std.specs.Prelude.{codes}
use Rattle.liberty2toml_command.proofs.LineLaws.{length-said}
use Rattle.liberty2toml_command.proofs.answer.length_line.Goals as goal

pub returns : goal.returns
returns c =
    c.new.ensures ∙ c.into_bytes.ensures ∙ c.in_ok-put-2.ensures.ok
    ∙ ap (λ (v : List ℕ). v ++ (codes " cells" ++ 10 ∷ []))
    (c.in_ok-put_number.ensures ∙ ap (λ (v : List ℕ). v ++ decimal 2) (c.in_ok-put.ensures.ok ∙ ap (λ (v : List ℕ). v ++ codes "refused ") c.new-lines.ensures))
    ∙ length-said
