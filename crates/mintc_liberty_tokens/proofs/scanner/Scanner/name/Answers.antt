use Rattle.std.proofs.Common.{sym, ap, ◌∙◌}
use Rattle.mintc_liberty_tokens.specs.Scans.{Scan}
use Rattle.mintc_liberty_tokens.specs.Reading.{kind_of, name_at}
use Rattle.mintc_liberty_tokens.proofs.FirstLaws.{word-front, string-front, no-string}
use Rattle.mintc_liberty_tokens.proofs.SharedNestLaws.{word-name, string-name, no-name}
use Rattle.mintc_liberty_tokens.proofs.scanner.Scanner.name.Goals as goal

pub returns-in-Word-clause-some : goal.returns-in-Word-clause-some
returns-in-Word-clause-some c =
    let same = ap (λ (s : Scan). s.tokens) c.self.view_is in
    let marked = ap kind_of same ∙ sym c.kind.ensures ∙ c.in-Word.is in
    ap name_at (sym same)
    ∙ word-name _ _ _ (word-front c.self.inside.text.now c.self.inside.at c.rest_from-rest.result.now c.word_size.result c.self.invariant.1 marked c.rest_from-rest.ensures c.word_size.ensures.value)

pub returns-in-Some-clause-some : goal.returns-in-Some-clause-some
returns-in-Some-clause-some c =
    let same = ap (λ (s : Scan). s.tokens) c.self.view_is in
    let marked = ap kind_of same ∙ sym c.kind.ensures ∙ c.in-Text.is in
    ap name_at (sym same)
    ∙ string-name _ _ _ (string-front c.self.inside.text.now c.self.inside.at c.rest_from-rest-in-Text.result.now c.in-Some.size c.self.invariant.1 marked c.rest_from-rest-in-Text.ensures (sym c.in-Some.is ∙ c.string_size.ensures.value))

pub returns-in-None-clause-none : goal.returns-in-None-clause-none
returns-in-None-clause-none c =
    let same = ap (λ (s : Scan). s.tokens) c.self.view_is in
    let marked = ap kind_of same ∙ sym c.kind.ensures ∙ c.in-Text.is in
    ap name_at (sym same)
    ∙ no-name _ marked (no-string c.self.inside.text.now c.self.inside.at c.rest_from-rest-in-Text.result.now c.self.invariant.1 marked c.rest_from-rest-in-Text.ensures (sym c.in-None.is ∙ c.string_size.ensures.value))
