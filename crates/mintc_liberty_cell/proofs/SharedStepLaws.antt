-- From one statement to the next, and where no statement comes next.
use Rattle.std.proofs.Common.{◌≡◌, ℕ, List, Option, Some, None, refl, ap, ◌∙◌}
use Rattle.mintc_liberty_tokens.specs.Tokens.{Token}
use Rattle.mintc_liberty_tokens.specs.Statements.{Statement, none, more, Step, and_more, statement_by, front}
use Rattle.mintc_liberty_tokens.specs.Reading.{step_rest, statement_rest}
use Rattle.mintc_liberty_tokens.proofs.SharedStatementLaws.{front-turn}

pub one-more : (room : ℕ) (ts us : List Token) → statement_rest room ts ≡ Some us →
    (s : Statement) × (statement_by front room ts ≡ Some (s, us)) × (front room ts ≡ record { statements = more s (front room us).statements; after = (front room us).after })
one-more room ts us e = by (statement_by front room ts) refl e
  where
    by : (o : Option Step) → statement_by front room ts ≡ o → step_rest o ≡ Some us →
        (s : Statement) × (statement_by front room ts ≡ Some (s, us)) × (front room ts ≡ record { statements = more s (front room us).statements; after = (front room us).after })
    by None f e = absurd (cc)
    by (Some s) f e =
        let same : s.1 ≡ us = cc in
        (s.0, f ∙ ap (λ vs. Some (s.0, vs)) same, front-turn room ts ∙ ap (and_more (front room) ts) f ∙ ap (λ vs. record { statements = more s.0 (front room vs).statements; after = (front room vs).after }) same)

pub no-more : (room : ℕ) (ts : List Token) → statement_rest room ts ≡ None → front room ts ≡ record { statements = none; after = ts }
no-more room ts e = front-turn room ts ∙ by (statement_by front room ts) e
  where
    by : (o : Option Step) → step_rest o ≡ None → and_more (front room) ts o ≡ record { statements = none; after = ts }
    by None e = refl
    by (Some s) e = absurd (cc)
