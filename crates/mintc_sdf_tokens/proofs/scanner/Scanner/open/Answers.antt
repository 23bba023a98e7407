use Rattle.std.proofs.Common.{drop, Some, sym, ap, ◌∙◌, arith, length-drop, drop-drop}
use Rattle.mintc_sdf_tokens.specs.Scans.{Scan}
use Rattle.mintc_sdf_tokens.specs.Tokens.{tokens_of}
use Rattle.mintc_sdf_tokens.specs.Reading.{mark_of, after_opening}
use Rattle.mintc_sdf_tokens.proofs.FirstLaws.{is-opening}
use Rattle.mintc_sdf_tokens.proofs.scanner.Scanner.open.Goals as goal

pub skip_trivia-self-inside-requires-clause-within : goal.skip_trivia-self-inside-requires-clause-within
skip_trivia-self-inside-requires-clause-within c =
    let o = is-opening (drop c.self.inside.at c.self.inside.text.now) c.self.invariant.1 (ap mark_of (ap (λ (s : Scan). s.tokens) c.self.view_is) ∙ sym c.mark.ensures ∙ c.in-Open.is) in
    omega (arith, o.0, length-drop c.self.inside.at c.self.inside.text.now)

pub returns-clause-passed : goal.returns-clause-passed
returns-clause-passed c =
    let bs = drop c.self.inside.at c.self.inside.text.now in
    let o = is-opening bs c.self.invariant.1 (ap mark_of (ap (λ (s : Scan). s.tokens) c.self.view_is) ∙ sym c.mark.ensures ∙ c.in-Open.is) in
    ap after_opening (sym (ap (λ (s : Scan). s.tokens) c.self.view_is) ∙ o.1)
    ∙ ap Some (ap tokens_of (drop-drop 1 c.self.inside.at c.self.inside.text.now) ∙ sym c.skip_trivia-self-inside.ensures.same)
