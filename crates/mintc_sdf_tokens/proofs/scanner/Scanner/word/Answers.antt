use Rattle.std.proofs.Common.{sym, ap, ◌∙◌, Some, take}
use Rattle.mintc_sdf_tokens.specs.Scans.{Scan}
use Rattle.mintc_sdf_tokens.specs.Reading.{mark_of, word_at}
use Rattle.mintc_sdf_tokens.proofs.FirstLaws.{word-front, word-full}
use Rattle.mintc_sdf_tokens.proofs.scanner.Scanner.word.Goals as goal

pub returns-clause-some : goal.returns-clause-some
returns-clause-some c =
    let marked = ap mark_of (ap (λ (s : Scan). s.tokens) c.self.view_is) ∙ sym c.mark.ensures ∙ c.in-Word.is in
    ap word_at (sym (ap (λ (s : Scan). s.tokens) c.self.view_is))
    ∙ word-front c.self.inside.text.now c.self.inside.at c.rest_from-rest.result.now c.word_size-size.result c.self.invariant.1 marked c.rest_from-rest.ensures c.word_size-size.ensures.value
    ∙ ap (λ ts. Some (take c.word_size-size.result c.rest_from-rest.result.now, ts)) (sym c.skip_trivia-self-inside.ensures.same)

pub returns-clause-full : goal.returns-clause-full
returns-clause-full c =
    word-full c.self.inside.text.now c.self.inside.at c.rest_from-rest.result.now c.word_size-size.result c.self.invariant.1
    (ap mark_of (ap (λ (s : Scan). s.tokens) c.self.view_is) ∙ sym c.mark.ensures ∙ c.in-Word.is) c.rest_from-rest.ensures c.word_size-size.ensures.value
