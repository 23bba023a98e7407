use Rattle.std.proofs.Common.{refl, sym, ap, ◌∙◌, Some, take}
use Rattle.mintc_liberty_tokens.specs.Scans.{Scan}
use Rattle.mintc_liberty_tokens.specs.Reading.{kind_of, string_at}
use Rattle.mintc_liberty_tokens.proofs.FirstLaws.{string-front, no-string}
use Rattle.mintc_liberty_tokens.proofs.scanner.Scanner.string.Goals as goal

pub returns-in-Some-clause-some : goal.returns-in-Some-clause-some
returns-in-Some-clause-some c =
    let same = ap (λ (s : Scan). s.tokens) c.self.view_is in
    let marked = ap kind_of same ∙ sym c.kind.ensures ∙ c.in-Text.is in
    ap string_at (sym same)
    ∙ string-front c.self.inside.text.now c.self.inside.at c.rest_from-rest.result.now c.in-Some.size c.self.invariant.1 marked c.rest_from-rest.ensures (sym c.in-Some.is ∙ c.string_size.ensures.value)
    ∙ ap (λ ts. Some (take c.in-Some.size c.rest_from-rest.result.now, ts)) (sym c.skip_trivia-self-inside.ensures.same)

pub returns-in-None-clause-none : goal.returns-in-None-clause-none
returns-in-None-clause-none c =
    let same = ap (λ (s : Scan). s.tokens) c.self.view_is in
    let marked = ap kind_of same ∙ sym c.kind.ensures ∙ c.in-Text.is in (
      ap string_at (sym same)
          ∙ no-string c.self.inside.text.now c.self.inside.at c.rest_from-rest.result.now c.self.invariant.1 marked c.rest_from-rest.ensures (sym c.in-None.is ∙ c.string_size.ensures.value),
      refl,
    )
