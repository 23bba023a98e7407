use Rattle.std.proofs.Common.{sym, ap, ◌∙◌, Some, take}
use Rattle.mintc_liberty_tokens.specs.Scans.{Scan}
use Rattle.mintc_liberty_tokens.specs.Reading.{kind_of, word_at}
use Rattle.mintc_liberty_tokens.proofs.FirstLaws.{word-front}
use Rattle.mintc_liberty_tokens.proofs.scanner.Scanner.word.Goals as goal

pub returns-in-Word-clause-some : goal.returns-in-Word-clause-some
returns-in-Word-clause-some c =
    let same = ap (λ (s : Scan). s.tokens) c.self.view_is in
    let marked = ap kind_of same ∙ sym c.kind.ensures ∙ c.in-Word.is in
    ap word_at (sym same)
    ∙ word-front c.self.inside.text.now c.self.inside.at c.rest_from-rest.result.now c.word_size-size.result c.self.invariant.1 marked c.rest_from-rest.ensures c.word_size-size.ensures.value
    ∙ ap (λ ts. Some (take c.word_size-size.result c.rest_from-rest.result.now, ts)) (sym c.skip_trivia-self-inside.ensures.same)
