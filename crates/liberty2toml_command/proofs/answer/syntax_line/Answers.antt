use Rattle.std.proofs.Common.{ℕ, List, [], ◌∷◌, ◌++◌, decimal, ap, ◌∙◌}
use Rattle.std.specs.Prelude.{codes}
use Rattle.liberty2toml_command.proofs.LineLaws.{syntax-said}
use Rattle.liberty2toml_command.proofs.answer.syntax_line.Goals as goal

pub returns : goal.returns
returns c =
    c.new.ensures ∙ c.into_bytes.ensures ∙ c.in_ok-put-3.ensures.ok
    ∙ ap (λ (v : List ℕ). v ++ 10 ∷ [])
    (c.in_ok-put_number-2.ensures
    ∙ ap (λ (v : List ℕ). v ++ decimal c.args.entry)
    (c.in_ok-put-2.ensures.ok
    ∙ ap (λ (v : List ℕ). v ++ codes " cells ")
    (c.in_ok-put_number.ensures ∙ ap (λ (v : List ℕ). v ++ decimal 1) (c.in_ok-put.ensures.ok ∙ ap (λ (v : List ℕ). v ++ codes "refused ") c.new-lines.ensures))))
    ∙ syntax-said c.args.entry
