-- The claim of a definition, shown where a condition ends.
use Rattle.std.proofs.Common.{◌≡◌, ℕ, Option, Some, None, List, ap, ◌∙◌}
use Rattle.mintc_sdf.specs.declared.delays.Subject.{Subject}
use Rattle.mintc_sdf.specs.declared.numbers.Sum.{Sum}
use Rattle.mintc_sdf_tokens.specs.Tokens.{Token}
use Rattle.mintc_sdf_tokens.specs.Items.{items}
use Rattle.mintc_sdf.specs.Forms.{Claim, claim, list_at, inner_def}
use Rattle.mintc_sdf_tokens.specs.Reading.{after_opening, inside}
use Rattle.mintc_sdf.specs.Keeping.{IsClaim}
use Rattle.mintc_sdf.proofs.SharedListLaws.{at-bad, at-some}
use Rattle.mintc_sdf.proofs.SharedFoundLaws.{shown}

-- the claim of a definition at an item, shown where a condition ends
pub claim-shown : (scale d : ℕ) (s : Subject) (sum : Sum) (o : Option (Claim × List Token)) (ts next end rest : List Token) → o ≡ shown rest (list_at (inner_def d) (items ts)) → after_opening ts ≡ Some next →
    IsClaim scale (inside (inner_def d) next) s sum end → IsClaim scale o s sum rest
claim-shown scale d s sum o ts next end rest e f h = (h.0, e ∙ ap (shown rest) (at-some (inner_def d) ts next end (claim s h.0) f h.1).0, h.2)

pub claim-hidden : (d : ℕ) (o : Option (Claim × List Token)) (ts next rest : List Token) → o ≡ shown rest (list_at (inner_def d) (items ts)) → after_opening ts ≡ Some next →
    inside (inner_def d) next ≡ None → o ≡ None
claim-hidden d o ts next rest e f h = e ∙ ap (shown rest) (at-bad (inner_def d) ts next f h)
