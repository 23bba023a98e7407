use Rattle.std.proofs.Common.{ℕ, List, [], ◌∷◌, ◌++◌, decimal, ap, ◌∙◌}
use Rattle.std.specs.Prelude.{codes}
use Rattle.mintc_text.specs.Refusals.{refusal_number, refusal_fields}
use Rattle.mintc_text.proofs.SharedLinesLaws.{line-spaced}
use Rattle.mintc_text_refusals.proofs.lines.refusal_text.Goals as goal

pub returns : goal.returns
returns c =
    c.into_bytes.ensures ∙ line-spaced [] _ _ _ (codes "refused") (decimal (refusal_number c.args.refusal.now) ∷ refusal_fields c.args.refusal.now)
    (c.in_ok-put.ensures.ok ∙ ap (λ (v : List ℕ). v ++ codes "refused") c.new-lines.ensures) c.in_ok-put_refusal.ensures c.in_ok-put-2.ensures.ok
