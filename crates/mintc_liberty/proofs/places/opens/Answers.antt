use Rattle.std.proofs.Common.{[]}
use Rattle.mintc_liberty_tokens.proofs.SharedPassingLaws.{both-ways}
use Rattle.mintc_liberty.proofs.NextLaws.{opened-there, opened-not}
use Rattle.mintc_liberty.proofs.places.opens.Goals as goal

pub returns-in-Some-clause-passed : goal.returns-in-Some-clause-passed
returns-in-Some-clause-passed c =
    both-ways c.eat_sign.result c.eat_sign.ensures.passed (λ f. opened-there _ _ _ _ c.in-Some.ensures.some (f [])) (λ n. opened-not _ _ _ c.in-Some.ensures.some n.0)
