use Rattle.std.proofs.Common.{[], ◌∷◌, sym, ap, ◌∙◌}
use Rattle.mintc_liberty_tokens.specs.Scans.{Scan}
use Rattle.mintc_liberty_tokens.specs.Reading.{kind_of, token_of}
use Rattle.mintc_liberty_tokens.proofs.FirstLaws.{sign-front}
use Rattle.mintc_liberty_tokens.proofs.scanner.Scanner.sign.Goals as goal

pub skip_trivia-self-inside-requires-clause-within : goal.skip_trivia-self-inside-requires-clause-within
skip_trivia-self-inside-requires-clause-within c =
    let same = ap (λ (s : Scan). s.tokens) c.self.view_is in
    (sign-front c.self.inside.text.now c.self.inside.at [] c.args.kind c.self.invariant.1 (c.requires.next ∙ ap kind_of (sym same)) c.requires.sign).0

pub returns-clause-sign : goal.returns-clause-sign
returns-clause-sign c w =
    let same = ap (λ (s : Scan). s.tokens) c.self.view_is in
    sym same
    ∙ (sign-front c.self.inside.text.now c.self.inside.at w c.args.kind c.self.invariant.1 (c.requires.next ∙ ap kind_of (sym same)) c.requires.sign).1
    ∙ ap (λ ts. token_of c.args.kind w ∷ ts) (sym c.skip_trivia-self-inside.ensures.same)
