use Rattle.std.proofs.Common.{◌≡◌, ℕ, List, IfOk, sym, subst, ◌∙◌}
use Rattle.mintc_sdf_tokens.proofs.WordLaws.{unescaped-plain}
use Rattle.mintc_sdf_tokens.proofs.words.without_escapes.Goals as goal

pub returns-then-not-contains : goal.returns-then-not-contains
returns-then-not-contains c =
    subst (λ (w : List ℕ). IfOk c.new.result (λ name. name ≡ w)) (sym (unescaped-plain c.args.word.now (sym c.contains.ensures.value ∙ c.if-not-contains.true))) c.new.ensures
