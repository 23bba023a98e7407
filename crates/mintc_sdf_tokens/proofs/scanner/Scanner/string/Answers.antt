use Rattle.std.proofs.Common.{refl, sym, ap, ◌∙◌, Some, take}
use Rattle.mintc_sdf_tokens.specs.Scans.{Scan}
use Rattle.mintc_sdf_tokens.specs.Reading.{mark_of, string_at}
use Rattle.mintc_sdf_tokens.proofs.FirstLaws.{string-front, no-string}
use Rattle.mintc_sdf_tokens.proofs.scanner.Scanner.string.Goals as goal

pub returns-clause-some : goal.returns-clause-some
returns-clause-some c =
    let marked = ap mark_of (ap (λ (s : Scan). s.tokens) c.self.view_is) ∙ sym c.mark.ensures ∙ c.in-Quote.is in
    ap string_at (sym (ap (λ (s : Scan). s.tokens) c.self.view_is))
    ∙ string-front c.self.inside.text.now c.self.inside.at c.rest_from-rest.result.now c.in_ok-size.size c.self.invariant.1 marked c.rest_from-rest.ensures (sym c.in_ok-size.was ∙ c.string_size.ensures.value)
    ∙ ap (λ ts. Some (take c.in_ok-size.size c.rest_from-rest.result.now, ts)) (sym c.skip_trivia-self-inside.ensures.same)

pub returns-in_err-size-clause-none : goal.returns-in_err-size-clause-none
returns-in_err-size-clause-none c =
    let marked = ap mark_of (ap (λ (s : Scan). s.tokens) c.self.view_is) ∙ sym c.mark.ensures ∙ c.in-Quote.is in
    rw c.from_residual.ensures (
      ap string_at (sym (ap (λ (s : Scan). s.tokens) c.self.view_is))
          ∙ no-string c.self.inside.text.now c.self.inside.at c.rest_from-rest.result.now c.self.invariant.1 marked c.rest_from-rest.ensures (sym c.in_err-size.was ∙ c.string_size.ensures.value),
      refl,
    )
